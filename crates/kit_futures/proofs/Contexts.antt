-- The one machine value of a context, and that nothing is left to say of one that was handed over.
use Rattle.std.proofs.Common.{◌≡◌, List, [], ◌∷◌, T, refl, sym, subst}
use base.Logic.{emp, ent, via}
use denote.Enum.Declared.{variants}
use denote.Exit.{left, yes}
use denote.Laws.{Is, Typed}
use denote.Param.{layout}
use denote.Param.Mute.{Mute, Mute-still, Mute-flat, Mute-variants, Mute-under, Mute-hidden, Mute-fields}
use denote.RattleType.{RattleType}
use denote.Signature.{static_lft, plain}
use denote.Struct.Declared as declared
use denote.Struct.Owning as owning
use denote.Struct.Struct.{exits_of, as_fields}
use denote.Triple.Walked.{Goes, stay_dropped}
use mir.Syntax.{Sym, Ty, ty_struct, tcons, tnil}
use mir.Val.{Val, vstruct, vcons, vnil, has_ty, WT}
use seplogic.Ra.Ura.{Ura}
use types.Logic.{Logic, sem}
use Rattle.futures.specs.contracts.task.context.Context as context
use Rattle.futures.specs.contracts.task.event_loop.Loop as events
use Rattle.futures.proofs.task.context.Context.TheLaws as laws
use Rattle.std.specs.contracts.alloc.Global as heap
use Rattle.std.specs.contracts.boxed.Box as boxed
use Rattle.std.specs.contracts.impls.GlobalAllocator.TheImpl.{ghosts}
use Rattle.std.specs.contracts.option.Option as option
use Rattle.kit_futures.specs.contracts.parts.carried.Carried as carried

abbrev pub Held : RattleType
Held = context.the_row static_lft

abbrev pub round : Val → Val
round v = vstruct (vcons v vnil)

abbrev pub Good : Val → Type 0
Good v = T (has_ty (layout Held) v) × WT v

pub round_good : (ν : Sym) (v : Val) → Good v → T (has_ty (ty_struct ν (tcons (layout Held) tnil)) (round v)) × WT (round v)
round_good ν v g = as_fields (layout Held ∷ []) (v ∷ []) (g, tt)

alone : (τ : Ty) (vs : List Val) → Typed (τ ∷ []) vs → (v : Val) × ((vs ≡ v ∷ []) × (T (has_ty τ v) × WT v))
alone τ [] t = absurd t
alone τ (v ∷ []) t = (v, (refl, t.0))
alone τ (v ∷ w ∷ vs) t = absurd t.1

pub one : {M : Type 1} {𝓤 : Ura M} (𝓛 : Logic 𝓤) (x : Held.Denot) (vs : List Val) → Is Held x vs → (v : Val) × ((vs ≡ v ∷ []) × Good v)
one 𝓛 x vs is = alone (layout Held) vs (((laws.the_row_laws static_lft).lawful 𝓛).typed x vs is)

mute_inside : Mute ((context.the_field static_lft).row.exit yes)
mute_inside = Mute-fields yes (declared.fields (context.the_type static_lft)) (
  Mute-still,
  (
    Mute-still,
    (
      Mute-still,
      (
        Mute-still,
        (
          Mute-flat (λ x w. refl) (λ x. tt),
          (Mute-variants yes (variants (option.the_type (boxed.the_row events.the_row heap.the_row ghosts))) (tt, ((Mute-flat (λ x w. refl) (λ x. tt), tt), tt)), tt),
        ),
      ),
    ),
  ),
)

mute : Mute (Held.exit yes)
mute = Mute-under (context.the_type static_lft).to ((context.the_field static_lft).row.exit yes) mute_inside

mute_carried : Mute (carried.the_row.exit yes)
mute_carried = Mute-hidden _ (Mute-under (owning.to carried.the_type) (exits_of yes (owning.fields carried.the_type)) (Mute-fields yes (owning.fields carried.the_type) (mute_inside, tt)))

module _ {M : Type 1} {𝓤 : Ura M} (𝓛 : Logic 𝓤) where
  goes : (R : RattleType) → Mute (R.exit yes) → Goes 𝓛 0 (plain (λ _. R)) yes (stay_dropped (plain (λ _. R)) yes)
  goes R m κs x f vs ok = via 𝓤 _ (subst (λ w. ent 𝓤 (emp 𝓤) (sem 𝓛 (left (R.exit yes) x w))) (sym (m.once x f)) (m.quiet _ 𝓤 𝓛 x)) (𝓛.laws.⇛_intro _)

  pub held_goes : Goes 𝓛 0 (plain (λ _. Held)) yes (stay_dropped (plain (λ _. Held)) yes)
  held_goes = goes Held mute

  pub carried_goes : Goes 𝓛 0 (plain (λ _. carried.the_row)) yes (stay_dropped (plain (λ _. carried.the_row)) yes)
  carried_goes = goes carried.the_row mute_carried
