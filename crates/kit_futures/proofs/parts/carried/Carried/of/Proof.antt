-- The context goes into the struct.
use Rattle.std.proofs.Common.{◌≡◌, List, [], ◌∷◌, ◌++◌, refl, sym, subst}
use mir.Val.{Val, vstruct, of_list}
use base.Logic.{SProp, emp, ent}
use base.Fml.{fsep, feq}
use types.Kit.{‵, raw, ◌⊛◌, ◌$◌, ◌∵◌, !, qed, by, move, keep, split, fjoin, fpack, use0, feq_i}
use types.Run.{of_opd, no_more, and_then, returns, enter}
use types.Part.{agg}
use types.ByLocal.{alloc_all, pass_all, free_all, look_at, get, sets}
use contract.Running.{tables}
use contract.Monad.{fact, fact_i}
use prog.Wp.{WpFn}
use denote.RattleType.{owns, Valss}
use denote.Exit.{yes, rest}
use denote.Signature.{plain, types_at}
use denote.Steps.{nothing}
use denote.Triple.Entry.{alive}
use denote.Triple.Walked.{Stays, stay_dropped, walk_of}
use Rattle.std.proofs.raw_atomic.Walks.{proved_at, leaves}
use Rattle.kit_futures.proofs.Contexts.{Held, Good, round, round_good, one, held_goes}
use Rattle.kit_futures.specs.contracts.parts.carried.Carried as carried
use Rattle.kit_futures.specs.contracts.parts.carried.Carried.of as f
use Rattle.kit_futures.proofs.parts.carried.Carried.of.Statement.{statement}
use Rattle.kit_futures.proofs.parts.carried.Carried.of.Code as code

pub of_spec : {M : Type 1} → statement M
of_spec 𝓤 𝓛 𝓜 𝓡 wired =
    let H = 𝓛.H in let 𝓣 = tables 𝓤 H 𝓜 𝓡 𝓡.env in
    let En = f.ended in let c = f.clauses 𝓛 𝓜.mem 𝓡.returns in
    let hs : Stays En.signature.params En.kept = (stay_dropped (plain (λ _. Held)) yes, tt) in
    proved_at 𝓛 En hs c 𝓜 𝓡 (held_goes 𝓛, tt)
    f.Key.name code.function (code.unfolded 𝓤 H 𝓜 𝓡 wired)
    (λ y are.
    let x : Held.Denot = y.0.3.0 in
    let r : carried.the_row.Denot = record { cx = x } in
    let got = one 𝓛 x y.0.4.0 are.0 in let v : Val = got.0 in let g : Good v = got.1.1 in
    let At : List Val → (walk_of 𝓛 En hs c).Ghost = λ us. ((y.0.0, y.0.1, y.0.2, y.0.3, (us, tt)), y.1) in
    subst (λ (us : List Val). ent 𝓤 ((walk_of 𝓛 En hs c).pre (At us)) (WpFn 𝓤 H 𝓣.C 𝓣.Λ code.function (us ++ []) ((walk_of 𝓛 En hs c).post (At us)))) (sym got.1.0)
    (let Post : Val → SProp 𝓤 = (walk_of 𝓛 En hs c).post (At (v ∷ [])) in
    qed 𝓛 ((raw (alive 𝓛 En.signature y.0.0 y.0.1) ⊛ ‵ (owns (types_at En.signature.params y.0.0) y.0.3 (v ∷ [], tt))) ∷ raw ((c y.0.0 y.0.3).requires y.1) ∷ []) ∵
    split ! $ keep ! (1 ∷ 0 ∷ []) $ feq_i ! (List Val) (round v ∷ []) (round v ∷ []) refl $ fjoin ! $
    fpack ! (Valss (Held ∷ []))
    (λ vss. fsep (feq (List Val) (round v ∷ []) (vstruct (of_list (vss.0 ++ [])) ∷ [])) (owns (Held ∷ []) (x, tt) vss))
    (v ∷ [], tt) $ nothing ! $ move ! (1 ∷ 0 ∷ []) $ fjoin ! $
    enter ! 𝓣.C 𝓣.Λ code.function (v ∷ []) Post $ alloc_all ! (λ l. pass_all ! refl (g, tt) $
    sets ! (of_opd ! (get ! refl)) refl g $
    sets ! (agg ! (and_then ! (get ! refl) (no_more !))) refl (round_good [] v g) $
    use0 𝓛 (raw (fact 𝓤 (x ≡ x))) (fact_i 𝓤 (x ≡ x) (emp 𝓤) refl) $ nothing ! $ nothing ! $ fjoin ! $
    returns ! (look_at ! 0 refl) $ free_all ! refl $ keep ! (3 ∷ 0 ∷ 2 ∷ 1 ∷ []) $
    by ! (leaves 𝓛 En hs c (At (v ∷ [])) (round v) r (rest (Held.exit yes) x, tt) (tt, tt)))))
