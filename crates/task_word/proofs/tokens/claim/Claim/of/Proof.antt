-- The badge goes into the struct.
use Rattle.atomic_table.proofs.Names.{◌≡◌, List, [], ◌∷◌, ◌++◌, refl, Val, vstruct, of_list, SProp, emp, fsep, ‵, raw}
use Rattle.atomic_table.proofs.Names.{◌⊛◌, ◌$◌, ◌∵◌, !, qed, by, move, keep, split, fjoin, fpack, use0, feq_i}
use Rattle.atomic_table.proofs.Names.{no_more, and_then, of_opd, returns, enter, alloc_all, pass_all, free_all}
use Rattle.atomic_table.proofs.Names.{look_at, get, sets, agg, tables, yes, owns, Valss, types_at, plain, nothing}
use Rattle.atomic_table.proofs.Names.{alive, Stays, stay_dropped, walk_of, Goes-dropped, fact, fact_i}
use Rattle.atomic_table.proofs.Walks.{proved, leaves}
use Rattle.atomic_table.proofs.Fields.{token_val}
use Rattle.atomic_table.specs.contracts.badge.Badge as badge
use Rattle.task_word.specs.contracts.rule.View as view
use Rattle.task_word.specs.contracts.tokens.claim.Claim as claim
use Rattle.task_word.proofs.Claims.{claim_val, badge_told}
use Rattle.task_word.specs.contracts.tokens.claim.Claim.of as f
use Rattle.task_word.proofs.tokens.claim.Claim.of.Statement.{statement}
use Rattle.task_word.proofs.tokens.claim.Claim.of.Code as code

pub of_spec : {M : Type 1} → statement M
of_spec 𝓤 𝓛 𝓜 𝓡 wired =
    let H = 𝓛.H in let 𝓣 = tables 𝓤 H 𝓜 𝓡 𝓡.env in
    let En = f.ended in let c = f.clauses 𝓛 𝓜.mem 𝓡.returns in
    let Br = badge.the_row view.the_row in
    let hs : Stays En.signature.params En.kept = (stay_dropped (plain (λ _. Br)) yes, tt) in
    proved 𝓛 En hs c 𝓜 𝓡 (Goes-dropped 𝓛 0 (plain (λ _. Br)) yes (λ κs x w. refl), tt)
    f.Key.name code.function (code.unfolded 𝓤 H 𝓜 𝓡 wired)
    (λ κs. ((λ _. token_val ∷ []), tt)) (λ κs. (badge_told, tt)) (λ κs qs bounds a gh are.
    let r : claim.the_row.Denot = record { badge = a.0 } in
    let y : (walk_of 𝓛 En hs c).Ghost = ((κs, qs, bounds, a, (token_val ∷ [], tt)), gh) in
    let Post : Val → SProp 𝓤 = (walk_of 𝓛 En hs c).post y in
    qed 𝓛 ((raw (alive 𝓛 En.signature κs qs) ⊛ ‵ (owns (types_at En.signature.params κs) a y.0.4))
    ∷ raw ((c κs a).requires gh) ∷ []) ∵
    -- the badge is what the struct owns
    split ! $ keep ! (1 ∷ 0 ∷ []) $ feq_i ! (List Val) (claim_val ∷ []) (claim_val ∷ []) refl $ fjoin ! $
    fpack ! (Valss (Br ∷ []))
    (λ vss. fsep (base.Fml.feq (List Val) (claim_val ∷ []) (vstruct (of_list (vss.0 ++ [])) ∷ []))
    (owns (Br ∷ []) (a.0, tt) vss))
    (token_val ∷ [], tt) $ nothing ! $ move ! (1 ∷ 0 ∷ []) $ fjoin ! $
    enter ! 𝓣.C 𝓣.Λ code.function (token_val ∷ []) Post $ alloc_all ! (λ l. pass_all ! refl ((tt, (tt, tt)), tt) $
    sets ! (of_opd ! (get ! refl)) refl (tt, (tt, tt)) $
    sets ! (agg ! (and_then ! (get ! refl) (no_more !))) refl (tt, ((tt, tt), tt)) $
    use0 𝓛 (raw (fact 𝓤 (a.0 ≡ a.0))) (fact_i 𝓤 (a.0 ≡ a.0) (emp 𝓤) refl) $ nothing ! $ nothing ! $ fjoin ! $
    returns ! (look_at ! 0 refl) $ free_all ! refl $ keep ! (3 ∷ 0 ∷ 2 ∷ 1 ∷ []) $
    by ! (leaves 𝓛 En hs c y claim_val r (tt, tt) (tt, tt))))
