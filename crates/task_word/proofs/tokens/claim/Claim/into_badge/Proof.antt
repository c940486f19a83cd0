-- The badge comes out of the struct.
use Rattle.atomic_table.proofs.Names.{◌≡◌, List, [], ◌∷◌, refl, Val, SProp, emp, ‵, raw, ◌⊛◌, ◌$◌, ◌∵◌, !, qed, by}
use Rattle.atomic_table.proofs.Names.{move, keep, drop, split, fsplit, fsplit3, fjoin, fpick, use0, rewrite, stop}
use Rattle.atomic_table.proofs.Names.{fld, of_opd, returns, enter, alloc_all, pass_all, free_all, look_at, get}
use Rattle.atomic_table.proofs.Names.{get_in, sets, sub, whole, tables, yes, owns, types_at, plain, nothing, alive}
use Rattle.atomic_table.proofs.Names.{Stays, stay_dropped, walk_of, fact, fact_i, Is, shows, peeks}
use Rattle.atomic_table.proofs.Walks.{proved, leaves}
use Rattle.std.proofs.alloc.Calls.{Goes-blank}
use Rattle.atomic_table.proofs.Fields.{token_val}
use Rattle.atomic_table.specs.contracts.badge.Badge as badge
use Rattle.task_word.specs.contracts.rule.View as view
use Rattle.task_word.specs.contracts.tokens.claim.Claim as claim
use Rattle.task_word.proofs.Claims.{claim_val, badge_told, claim_told}
use Rattle.task_word.specs.contracts.tokens.claim.Claim.into_badge as f
use Rattle.task_word.proofs.tokens.claim.Claim.into_badge.Statement.{statement}
use Rattle.task_word.proofs.tokens.claim.Claim.into_badge.Code as code

pub into_badge_spec : {M : Type 1} → statement M
into_badge_spec 𝓤 𝓛 𝓜 𝓡 wired =
    let H = 𝓛.H in let 𝓣 = tables 𝓤 H 𝓜 𝓡 𝓡.env in
    let En = f.ended in let c = f.clauses 𝓛 𝓜.mem 𝓡.returns in
    let Br = badge.the_row view.the_row in let Cr = claim.the_row in
    let hs : Stays En.signature.params En.kept = (stay_dropped (plain (λ _. Cr)) yes, tt) in
    proved 𝓛 En hs c 𝓜 𝓡 (Goes-blank 𝓛 0 (plain (λ _. Cr)) yes (λ κs x w. tt), tt)
    f.Key.name code.function (code.unfolded 𝓤 H 𝓜 𝓡 wired)
    (λ κs. ((λ _. claim_val ∷ []), tt)) (λ κs. (claim_told, tt)) (λ κs qs bounds a gh are.
    let x : Br.Denot = a.0.badge in
    let y : (walk_of 𝓛 En hs c).Ghost = ((κs, qs, bounds, a, (claim_val ∷ [], tt)), gh) in
    let Post : Val → SProp 𝓤 = (walk_of 𝓛 En hs c).post y in
    qed 𝓛 ((raw (alive 𝓛 En.signature κs qs) ⊛ ‵ (owns (types_at En.signature.params κs) a y.0.4))
    ∷ raw ((c κs a).requires gh) ∷ []) ∵
    -- what the struct owns is the badge
    split ! $ move ! (1 ∷ []) $ fsplit ! $ fsplit ! $
    fpick ! (λ vss. fsplit3 ! $ drop ! $ peeks ! Br (Is Br) (shows 𝓛 Br) x vss.0 (λ so.
    rewrite ! 0 (λ (ws : List Val). ‵ (Br.own_val x ws)) (badge_told x vss.0 so) refl $ keep ! (0 ∷ 4 ∷ []) $
    enter ! 𝓣.C 𝓣.Λ code.function (claim_val ∷ []) Post $ alloc_all ! (λ l. pass_all ! refl ((tt, ((tt, tt), tt)), tt) $
    sets ! (of_opd ! (get_in ! (fld ! refl (stop !)) (sub ! 0 refl (whole !)))) refl (tt, (tt, tt)) $
    sets ! (of_opd ! (get ! refl)) refl (tt, (tt, tt)) $
    use0 𝓛 (raw (fact 𝓤 (x ≡ x))) (fact_i 𝓤 (x ≡ x) (emp 𝓤) refl) $ nothing ! $ nothing ! $ fjoin ! $
    returns ! (look_at ! 0 refl) $ free_all ! refl $ keep ! (3 ∷ 0 ∷ 2 ∷ 1 ∷ []) $
    by ! (leaves 𝓛 En hs c y token_val x ((tt, tt), tt) (tt, tt))))))
