-- The context comes out of the struct.
use Rattle.std.proofs.Common.{◌≡◌, List, [], ◌∷◌, ◌++◌, refl, sym, subst, ap, ◌∙◌}
use mir.Val.{Val, vstruct, of_list}
use base.Logic.{SProp, emp, ent}
use types.Kit.{‵, raw, ◌⊛◌, ◌$◌, ◌∵◌, !, qed, by, move, keep, drop, split, fsplit, fjoin, fpick, feq_l, use0, rewrite}
use types.Run.{of_opd, returns, enter, stop, fld}
use types.Part.{sub, whole}
use types.ByLocal.{alloc_all, pass_all, free_all, look_at, get, get_in, sets}
use contract.Running.{tables}
use contract.Monad.{fact, fact_i}
use prog.Wp.{WpFn}
use denote.RattleType.{owns}
use denote.Exit.{yes, rest}
use denote.Laws.{Is, shows}
use denote.Signature.{plain, types_at}
use denote.Steps.{nothing, peeks}
use denote.Triple.Entry.{alive}
use denote.Triple.Walked.{Stays, stay_dropped, walk_of}
use Rattle.std.proofs.raw_atomic.Walks.{proved_at, leaves}
use Rattle.kit_futures.proofs.Contexts.{Held, Good, round, round_good, one, carried_goes}
use Rattle.kit_futures.specs.contracts.parts.carried.Carried as carried
use Rattle.kit_futures.specs.contracts.parts.carried.Carried.into_context as f
use Rattle.kit_futures.proofs.parts.carried.Carried.into_context.Statement.{statement}
use Rattle.kit_futures.proofs.parts.carried.Carried.into_context.Code as code

pub into_context_spec : {M : Type 1} → statement M
into_context_spec 𝓤 𝓛 𝓜 𝓡 wired =
    let H = 𝓛.H in let 𝓣 = tables 𝓤 H 𝓜 𝓡 𝓡.env in
    let En = f.ended in let c = f.clauses 𝓛 𝓜.mem 𝓡.returns in
    let hs : Stays En.signature.params En.kept = (stay_dropped (plain (λ _. carried.the_row)) yes, tt) in
    proved_at 𝓛 En hs c 𝓜 𝓡 (carried_goes 𝓛, tt)
    f.Key.name code.function (code.unfolded 𝓤 H 𝓜 𝓡 wired)
    (λ y are.
    let x : Held.Denot = y.0.3.0.cx in
    let At : List Val → (walk_of 𝓛 En hs c).Ghost = λ us. ((y.0.0, y.0.1, y.0.2, y.0.3, (us, tt)), y.1) in
    qed 𝓛 ((raw (alive 𝓛 En.signature y.0.0 y.0.1) ⊛ ‵ (owns (types_at En.signature.params y.0.0) y.0.3 y.0.4)) ∷ raw ((c y.0.0 y.0.3).requires y.1) ∷ []) ∵
    split ! $ move ! (1 ∷ []) $ fsplit ! $ fsplit ! $
    fpick ! (λ vss. fsplit ! $ feq_l ! (λ e. fsplit ! $ move ! (1 ∷ []) $ drop ! $ peeks ! Held (Is Held) (shows 𝓛 Held) x vss.0 (λ so.
    let got = one 𝓛 x vss.0 so in let v : Val = got.0 in let g : Good v = got.1.1 in
    let is : y.0.4.0 ≡ round v ∷ [] = e ∙ ap (λ (ws : List Val). vstruct (of_list (ws ++ [])) ∷ []) got.1.0 in
    rewrite ! 0 (λ (ws : List Val). ‵ (Held.own_val x ws)) got.1.0 refl $ keep ! (0 ∷ 3 ∷ []) $
    by ! (subst (λ (us : List Val). ent 𝓤 (types.Kit.⋆ 𝓛 (‵ (Held.own_val x (v ∷ [])) ∷ raw (alive 𝓛 En.signature y.0.0 y.0.1) ∷ [])) (WpFn 𝓤 H 𝓣.C 𝓣.Λ code.function (us ++ []) ((walk_of 𝓛 En hs c).post (At us)))) (sym is)
    (let Post : Val → SProp 𝓤 = (walk_of 𝓛 En hs c).post (At (round v ∷ [])) in
    qed 𝓛 (‵ (Held.own_val x (v ∷ [])) ∷ raw (alive 𝓛 En.signature y.0.0 y.0.1) ∷ []) ∵
    enter ! 𝓣.C 𝓣.Λ code.function (round v ∷ []) Post $ alloc_all ! (λ l. pass_all ! refl (round_good [] v g, tt) $
    sets ! (of_opd ! (get_in ! (fld ! refl (stop !)) (sub ! 0 refl (whole !)))) refl g $
    sets ! (of_opd ! (get ! refl)) refl g $
    use0 𝓛 (raw (fact 𝓤 (x ≡ x))) (fact_i 𝓤 (x ≡ x) (emp 𝓤) refl) $ nothing ! $ nothing ! $ fjoin ! $
    returns ! (look_at ! 0 refl) $ free_all ! refl $ keep ! (3 ∷ 0 ∷ 2 ∷ 1 ∷ []) $
    by ! (leaves 𝓛 En hs c (At (round v ∷ [])) v x (rest (carried.the_row.exit yes) y.0.3.0, tt) (tt, tt)))))))))
