-- `'static` is a lifetime like any other, of which there is a token for nothing. So the callee's contract is met with [] for each of its lifetimes.
use Rattle.std.proofs.Common.{List, [], ◌∷◌, ◌++◌, refl, w64}
use base.Fraction.{full_share}
use base.Logic.{sep, id⊢}
use base.Fml.{ftrue, flft}
use contract.BorrowLft.{◌⊑◌, ⊑_refl}
use contract.Monad.{fact}
use contract.Running.{tables}
use denote.Builtin.{usize}
use denote.Laws.{Is, shows}
use denote.Param.{param, bounded}
use denote.Param.Laws.{Laws, of_field, param_laws}
use denote.Param.Shared.{copy_shared}
use denote.Plain.{uint_vals, uint_Tells}
use denote.RattleType.{RattleType}
use denote.Ref.{NamedLft, ShrRef, shr_vals, shr_Tells}
use denote.Steps.{nothing, peeks}
use denote.Struct.Field.{shr_ref_field}
use denote.Struct.Laws.{shr_ref_laws, shr_ref_copy}
use denote.Triple.Call.{calls_at}
use denote.Triple.Entry.{alive}
use denote.Triple.Spec.{Back, triple_of}
use denote.Triple.Table.{entered, framed}
use mir.MapTy.{inst_fn}
use mir.Syntax.{a_type, dcons, dnil, static}
use mir.Val.{Val}
use prog.Wp.{WpFn}
use types.ByLocal.{alloc_all, pass_all, free_all, look_at, get, lands_as}
use types.Kit.{‵, raw, ◌⊛◌, some, later, prop, ◌$◌, ◌∵◌, !, qed, move, drop, use0, use1, split, join, pick, await, rewrite, regoal, updating, now, show, done}
use types.Run.{enter, and_then, no_more, returns}
use Rattle.std.proofs.option.Option.TheLaws.{the_row_laws as option_laws}
use Rattle.std.specs.contracts.option.Option.{the_row as Option}
use Rattle.async_task.specs.contracts.realm.Cells.{the_row as Cells}
use Rattle.async_task.specs.contracts.realm.Cells.lasting as f
use Rattle.async_task.proofs.realm.Cells.lasting.Statement.{statement}
use Rattle.async_task.proofs.realm.Cells.lasting.Code as code
use Rattle.async_task.specs.contracts.realm.Cells.cell as g
use Rattle.async_task.proofs.realm.Cells.cell.Met.{met}

module _ (C : RattleType) where
  -- what is passed first
  abbrev Given : RattleType
  Given = ShrRef static [] (Cells (param 0 C))

  -- what is returned
  abbrev Found : RattleType
  Found = Option (ShrRef static [] (param 0 C))

  found_laws : Laws C → Laws Found
  found_laws L = let R = param 0 C in let ℓ : NamedLft = record { mir = static; lft = [] } in
      option_laws (ShrRef static [] R) (of_field (shr_ref_field ℓ R tt) (shr_ref_laws ℓ R tt) refl (copy_shared (shr_ref_field ℓ R tt) (shr_ref_copy ℓ R tt (param_laws 0 C L).shr_laws)))

pub lasting_spec : {M : Type 1} → statement M
lasting_spec 𝓤 𝓛 𝓜 𝓡 wired C L d drops =
    let 𝓣 = tables 𝓤 𝓛.H 𝓜 𝓡 𝓡.env in let args = bounded (a_type ∷ []) (C, tt) (dcons d dnil) in let function = inst_fn args code.function in
    let F = triple_of 𝓛 (f.signature C) (f.spec C d 𝓛 𝓜.mem 𝓡.returns) in
    entered 𝓤 𝓛.H F 𝓣.C 𝓣.Λ (f.Key.name args) function (code.unfolded 𝓤 𝓛.H 𝓜 𝓡 wired (C, tt) d) (λ y.
    let κs = y.0.0 in let a = y.0.3 in let us = y.0.4.0 in let vs = y.0.4.1.0 in
    let G = triple_of 𝓛 (g.signature C) (g.spec C d 𝓛 𝓜.mem 𝓡.returns) in
    let z : G.Ghost = ((([], ([], tt)), (full_share, (full_share, tt)), (⊑_refl [], tt), a, (shr_vals a.0, (uint_vals w64 a.1.0, tt))), tt) in
    let Own = λ (us' : List Val). ‵ ((Given C).own_val a.0 us') in
    let Number = λ (vs' : List Val). ‵ (usize.own_val a.1.0 vs') in
    let Asks = raw (fact 𝓤 ([] ⊑ C.lives)) ⊛ ‵ ftrue in
    let Forever = ‵ (flft [] full_share) in
    let Alive = Forever ⊛ (Forever ⊛ ‵ ftrue) in
    let Left = (f.spec C d 𝓛 𝓜.mem 𝓡.returns κs a).ensures tt in
    qed 𝓛 ((raw (alive 𝓛 (f.signature C) κs y.0.1) ⊛ (Own us ⊛ (Number vs ⊛ ‵ ftrue))) ∷ (raw (fact 𝓤 (κs.0 ⊑ C.lives)) ⊛ Asks) ∷ []) ∵
    split ! $ move ! (1 ∷ []) $ split ! $
    -- the machine values of what is passed
    peeks ! (Given C) (Is (Given C)) (shows 𝓛 (Given C)) a.0 us (λ at. let point = shr_Tells static [] (Cells (param 0 C)) a.0 us at in
    rewrite ! 0 Own point refl $ regoal ! (λ (us' : List Val). prop (WpFn 𝓤 𝓛.H 𝓣.C 𝓣.Λ function (us' ++ (vs ++ [])) (F.post y))) point refl $
    move ! (1 ∷ []) $ split ! $ peeks ! usize (Is usize) (shows 𝓛 usize) a.1.0 vs (λ is. let number = uint_Tells w64 a.1.0 vs is in
    rewrite ! 0 Number number refl $ regoal ! (λ (vs' : List Val). prop (WpFn 𝓤 𝓛.H 𝓣.C 𝓣.Λ function (shr_vals a.0 ++ (vs' ++ [])) (F.post y))) number refl $
    -- [the second; nothing; the first; our token; what we ask]
    join ! $ move ! (1 ∷ 0 ∷ []) $ join ! $ move ! (2 ∷ []) $ split ! $ drop ! $
    enter ! _ _ _ _ _ $ alloc_all ! (λ l. pass_all ! refl ((tt, tt), ((tt, record { fits = is.1 }), tt)) $
    -- [what the callee asks; what is passed; our token]
    nothing ! $ use0 𝓛 Forever (𝓛.lfts.lft-nil full_share) $ join ! $ use0 𝓛 Forever (𝓛.lfts.lft-nil full_share) $ join ! $
    move ! (0 ∷ 2 ∷ []) $ join ! $ join ! $ use1 𝓛 (raw (G.pre z)) (id⊢ 𝓤 _) $
    calls_at ! (framed 𝓤 𝓛.H 𝓜 𝓣) G (met 𝓤 𝓛 𝓜 𝓡 (code.calls-async_task::realm::Cells::cell 𝓡.env wired) C L d drops) z
    (and_then ! (get ! refl) (and_then ! (get ! refl) (no_more !))) (λ u.
    use1 𝓛 (later (some (λ (r : (Found C).Denot). (Alive ⊛ ‵ ((Found C).own_val r (u ∷ []))) ⊛ raw (Left r)))) (id⊢ 𝓤 _) $
    await ! tt $ pick ! (λ r. split ! $ split ! $ drop ! $
    peeks ! (Found C) (Is (Found C)) (shows 𝓛 (Found C)) r (u ∷ []) (λ is'.
    lands_as ! refl refl ((((found_laws C L).lawful 𝓛).typed r (u ∷ []) is').0) $
    -- [the result; what the `ensures` says; our token]
    returns ! (look_at ! 0 refl) $ free_all ! refl $
    updating ! $ now ! $ show ! (λ (x : (Found C).Denot). sep 𝓤 (Back 𝓛 (f.signature C) y.0 u x) (Left x)) r $ move ! (2 ∷ 0 ∷ 1 ∷ []) $ join ! $ done !)))))))
