-- Turns that follow one another, in each of which the first future is polled.
use Rattle.std.proofs.Common.{◌≡◌, ◌<◌, ◌≤◌, ◌+◌, ◌∷◌, ◌++◌, [], ℕ, List, length, ap, arith, refl, sym, ◌∙◌}
use Rattle.std.proofs.lemmas.List.{append-nil, append_assoc, length-append, map-append}
use Rattle.async_task.specs.declared.poll.Poll.TheVariants.{Ready, Pending}
use Rattle.combinators.specs.declared.unordered.Numbered.{Numbered}
use Rattle.combinators.specs.Rounds.{HasGone, HasTurned, HaveGone, numbers}

abbrev head_or : {X : Type 0} → X → List X → X
head_or d [] = d
head_or d (x ∷ _) = x

abbrev tail_of : {X : Type 0} → List X → List X
tail_of [] = []
tail_of (_ ∷ xs) = xs

-- at first none was polled
pub none_has_gone : {F : Type 0} (old : List (Numbered F)) → HaveGone 0 old old
none_has_gone old = record {
  polled = [];
  behind = old;
  pending = [];
  were = refl;
  are = sym (append-nil old);
  same = refl;
  counted = refl;
}

-- the next is pending
behind_goes :
    {F : Type 0} (T : Type 0) (count : ℕ) (old mid new polled behind pending : List (Numbered F))
    → old ≡ polled ++ behind → mid ≡ behind ++ pending → numbers pending ≡ numbers polled → length polled ≡ count
    → HasTurned {T = T} mid new Pending → count < length old → HaveGone (count + 1) old new
behind_goes T count old mid new polled [] pending were are same counted turn some =
    absurd (omega (arith, some, counted, ap length were, length-append polled []))
behind_goes T count old mid new polled (b ∷ bs) pending were are same counted t some =
    let first = t.0 in
    let then = t.1 in
    let rest = t.2 in
    let cut : b ∷ (bs ++ pending) ≡ first ∷ rest = sym are ∙ t.3 in
    let here : b ≡ first = ap (λ l. head_or b l) cut in
    let there : bs ++ pending ≡ rest = ap (λ l. tail_of l) cut in
    let back : numbers (pending ++ then ∷ []) ≡ numbers (polled ++ b ∷ []) =
    map-append (λ one. one.number) pending (then ∷ [])
    ∙ ap (λ l. l ++ then.number ∷ []) same
    ∙ ap (λ n. numbers polled ++ n ∷ []) (t.5 ∙ ap (λ one. one.number) (sym here))
    ∙ sym (map-append (λ one. one.number) polled (b ∷ [])) in
    record {
      polled = polled ++ b ∷ [];
      behind = bs;
      pending = pending ++ then ∷ [];
      were = were ∙ sym (append_assoc polled (b ∷ []) bs);
      are = t.4 ∙ ap (λ l. l ++ then ∷ []) (sym there) ∙ append_assoc bs pending (then ∷ []);
      same = back;
      counted = omega (arith, counted, length-append polled (b ∷ []));
    }

pub one_more_has_gone :
    {F : Type 0} (T : Type 0) (count : ℕ) (old mid new : List (Numbered F))
    → HaveGone count old mid → HasTurned {T = T} mid new Pending → count < length old → HaveGone (count + 1) old new
one_more_has_gone T count old mid new h turn some =
    behind_goes T count old mid new h.polled h.behind h.pending h.were h.are h.same h.counted turn some

-- the next is done
behind_is_done :
    {F T : Type 0} (count : ℕ) (done : ℕ × T) (old mid new polled behind pending : List (Numbered F))
    → old ≡ polled ++ behind → mid ≡ behind ++ pending → numbers pending ≡ numbers polled → length polled ≡ count
    → HasTurned mid new (Ready done) → count < length old → HasGone done.0 old new
behind_is_done count done old mid new polled [] pending were are same counted turn some =
    absurd (omega (arith, some, counted, ap length were, length-append polled []))
behind_is_done count done old mid new polled (b ∷ bs) pending were are same counted t some =
    let cut : b ∷ (bs ++ pending) ≡ t.0 ∷ new = sym are ∙ t.1 in
    let here : b ≡ t.0 = ap (λ l. head_or b l) cut in
    let there : bs ++ pending ≡ new = ap (λ l. tail_of l) cut in
    record {
      polled = polled;
      done = b;
      behind = bs;
      pending = pending;
      were = were;
      are = sym there;
      same = same;
      numbered = t.2 ∙ ap (λ one. one.number) (sym here);
    }

pub one_has_gone :
    {F T : Type 0} (count : ℕ) (done : ℕ × T) (old mid new : List (Numbered F))
    → HaveGone count old mid → HasTurned mid new (Ready done) → count < length old → HasGone done.0 old new
one_has_gone count done old mid new h turn some =
    behind_is_done count done old mid new h.polled h.behind h.pending h.were h.are h.same h.counted turn some

-- all were polled
none_is_behind :
    {F : Type 0} (count : ℕ) (old new polled behind pending : List (Numbered F))
    → old ≡ polled ++ behind → new ≡ behind ++ pending → numbers pending ≡ numbers polled → length polled ≡ count
    → length old ≤ count → numbers new ≡ numbers old
none_is_behind count old new polled [] pending were are same counted all =
    ap (λ l. numbers l) are ∙ same ∙ ap (λ l. numbers l) (sym (were ∙ append-nil polled))
none_is_behind count old new polled (b ∷ bs) pending were are same counted all =
    absurd (omega (arith, all, counted, ap length were, length-append polled (b ∷ bs)))

pub all_have_gone :
    {F : Type 0} (count : ℕ) (old new : List (Numbered F)) → HaveGone count old new → length old ≤ count → numbers new ≡ numbers old
all_have_gone count old new h all =
    none_is_behind count old new h.polled h.behind h.pending h.were h.are h.same h.counted all
