-- An executor of one owner hands out to a run what the plain scheduler's run takes, in order.
use Rattle.std.proofs.Common.{◌≡◌, ℕ, zero, suc, ◌<◌, ◌==◌, nat_lt, cond, not, Bool, true, false, List, [], ◌∷◌, ◌++◌, length, map, drop}
use Rattle.std.proofs.Common.{is_some}
use Rattle.std.proofs.Common.{append-nil, slice_get, refl, sym, ap, subst, ◌∙◌}
use Rattle.executor_parts.specs.declared.mark.Mark.{Mark}
use Rattle.solo.specs.declared.names.Kind.{Kind}
use Rattle.solo.specs.declared.names.SoloWaker.{SoloWaker}
use Rattle.solo.specs.declared.names.Task.{Task}
use Rattle.solo.specs.declared.owed.Lent.{Lent}
use Rattle.solo.specs.declared.solo.Solo.{Solo}
use Rattle.solo.specs.Solo.{IsNew, counts}
use Rattle.plain_scheduler.specs.State.{Choice, Event, Plain, Who}
use Rattle.plain_scheduler.specs.Lists.{any}
use Rattle.plain_scheduler.specs.Calls.{Call, course, does, new}
use Rattle.plain_laws.specs.Order.{count, is_others, is_urgent, last_begun, leaves_to, line, of_mark, taken, took}
use Rattle.plain_laws.specs.Order.{IsAlone, all_came, all_came_with, all_taken, came, came_with, takes_alone, whole_line}
use Rattle.plain_laws.proofs.Words.{both_true, map_both}
use Rattle.plain_laws.proofs.Marked.{Marked, are_marked}
use Rattle.plain_laws.proofs.InOrder.{in_order, one_so}
use Rattle.plain_laws.proofs.Altogether.{ArePlain, all_in_order, are_plain, unkept_so, were_plain}
use Rattle.solo_laws.specs.Counting.{counts_of}
use Rattle.solo_laws.specs.Courses.{Leads, leads, stays}
use Rattle.solo_laws.specs.Owner.{Owner, new_owner}
use Rattle.solo_laws.specs.Road.{wakes}
use Rattle.solo_laws.specs.Tabled.{Stands, named}
use Rattle.solo_laws.proofs.Following.Lists.{length_map}
use Rattle.solo_laws.proofs.Choices.Counts.{call_counts}
use Rattle.solo_laws.proofs.Showing.Counts.{Below, acts_below, leads_below, new_below}
use Rattle.solo_laws.proofs.Showing.Courses.{Known, leads_alike, new_known}
use Rattle.two_roads.specs.InOrder.{HandsInOrder, IsAloneIn, all_wait, come, handed, handed_with, waits}
use Rattle.two_roads.proofs.CountsMore.{counts_more}
use Rattle.two_roads.proofs.WaitingTasks.{kept_none, line_so, others_none, there_below, whole_line_so}

map_drop : {X Y : Type 0} (f : X → Y) (n : ℕ) (xs : List X) → map f (drop n xs) ≡ drop n (map f xs)
map_drop f zero xs = refl
map_drop f (suc n) [] = refl
map_drop f (suc n) (x ∷ xs) = map_drop f n xs

turned_round : (b : Bool) (xs : List ℕ) → cond b xs [] ≡ cond (not b) [] xs
turned_round true xs = refl
turned_round false xs = refl

-- what is taken in a list of calls, of those that are looked at, and what came in it
module _ {T X : Type 0} (r : ℕ) (of : Plain T (SoloWaker X) → List ℕ → List ℕ) where
  abbrev takes_in : List (Choice × Call T (SoloWaker X)) → Plain T (SoloWaker X) → List ℕ
  takes_in [] p = []
  takes_in (c ∷ cs) p = of (does wakes c.0 c.1 p) (took r p (does wakes c.0 c.1 p)) ++ takes_in cs (does wakes c.0 c.1 p)

  module _ (waiting : Plain T (SoloWaker X) → List ℕ) where
    abbrev came_one : Plain T (SoloWaker X) → Plain T (SoloWaker X) → List ℕ
    came_one p q = drop (length (waiting p)) (of q (took r p q) ++ waiting q)

    abbrev comes_in : List (Choice × Call T (SoloWaker X)) → Plain T (SoloWaker X) → List ℕ
    comes_in [] p = []
    comes_in (c ∷ cs) p = came_one p (does wakes c.0 c.1 p) ++ comes_in cs (does wakes c.0 c.1 p)

module _ {F T X : Type 0} (its : ℕ → Lent) (r : ℕ) (of : Plain T (SoloWaker X) → List ℕ → List ℕ) (waiting : Plain T (SoloWaker X) → List ℕ)
    (wait : Solo F T X → List Task) where
  abbrev its_taken : List (Choice × Call T (SoloWaker X)) → Plain T (SoloWaker X) → List ℕ
  its_taken cs p = takes_in r of cs p

  abbrev its_comers : List (Choice × Call T (SoloWaker X)) → Plain T (SoloWaker X) → List ℕ
  its_comers cs p = comes_in r of waiting cs p

  -- where each waits as the other, and the run is there
  abbrev WaitsSo : Plain T (SoloWaker X) → Type 0
  WaitsSo p = (s : Solo F T X) → Stands its s p → map (named its) (waiting p) ≡ wait s

  abbrev AllWaitSo : List (Choice × Call T (SoloWaker X)) → Plain T (SoloWaker X) → Type 0
  AllWaitSo [] p = WaitsSo p
  AllWaitSo (c ∷ cs) p = WaitsSo p × (is_some (slice_get p.runs r) ≡ true) × AllWaitSo cs (does wakes c.0 c.1 p)

  first_so : (cs : List (Choice × Call T (SoloWaker X))) (p : Plain T (SoloWaker X)) → AllWaitSo cs p → WaitsSo p
  first_so [] p so = so
  first_so (c ∷ cs) p so = so.0

  -- so both are, by what was shown
  pub record Handed (cs : List (Choice × Call T (SoloWaker X))) (s z : Solo F T X) (p : Plain T (SoloWaker X)) (taken came : List Task)
      : Type 0 where
    pub taken_is : map (named its) (its_taken cs p) ≡ taken
    pub came_is : map (named its) (its_comers cs p) ≡ came
    pub first : map (named its) (waiting p) ≡ wait s
    pub last : map (named its) (waiting (course wakes cs p)) ≡ wait z

  handed_one : (before now : Owner) (seen : List (Event T (SoloWaker X))) (p q : Plain T (SoloWaker X)) → q.events ≡ seen
      → (counts_of before r == counts_of now r) ≡ not (nat_lt (count r p) (count r q))
      → map (named its) (of q (took r p q)) ≡ handed_with its r of before now seen q
  handed_one before now seen p q is more =
      ap (λ es. map (named its) (of q (cond (nat_lt (count r p) (count r q)) (last_begun es) []))) is
      ∙ (ap (λ l. map (named its) (of q l)) (turned_round (nat_lt (count r p) (count r q)) (last_begun seen))
      ∙ ap (λ b. map (named its) (of q (cond b [] (last_begun seen)))) (sym more))

  pub hands : (cs : List (Choice × Call T (SoloWaker X))) (before after : Owner) (s z : Solo F T X) (p : Plain T (SoloWaker X))
      (shown seen : List (Event T (SoloWaker X))) → Known its before s p → Below before → p.events ≡ seen → AllWaitSo cs p
      → (on : Leads its cs before s p shown after z)
      → Handed cs s z p (handed its r of seen on) (come its r of wait seen on)
  hands cs before after s z p shown seen known below is so (stays owner s' p') =
      record { taken_is = refl; came_is = refl; first = so s known.stands; last = so s known.stands }
  hands cs before after s z p shown seen known below is so (leads c call rest begun now later s' y z' p' some others many acts how) =
      let q = does wakes c call p' in
      let one =
      leads_alike its ((c, call) ∷ []) begun now s' y p' (some ++ []) known
      (leads c call [] begun now now s' y y p' some [] many acts (stays now y q)) in
      let seen_so : q.events ≡ seen ++ some = one.1 ∙ (ap (λ es. p'.events ++ es) (append-nil some) ∙ ap (λ es. es ++ some) is) in
      let still = acts_below its begun c below s' p' now y call some acts in
      let more = hands rest now later y z' q others (seen ++ some) one.0 still seen_so so.2 how in
      let counted = call_counts its begun c s' p' known below many now y call some acts r in
      let gives =
      handed_one begun now (seen ++ some) p' q seen_so (counts_more wakes c r call p' (counts_of begun) so.1 (counts_of now r) counted) in
      let here = so.0 s' known.stands in
      record {
        taken_is =
            map_both (named its) (of q (took r p' q)) (its_taken rest q)
            ∙ (ap (λ l. l ++ map (named its) (its_taken rest q)) gives
            ∙ ap (λ l. handed_with its r of begun now (seen ++ some) q ++ l) more.taken_is);
        came_is =
            map_both (named its) (came_one r of waiting p' q) (its_comers rest q)
            ∙ (ap (λ l. l ++ map (named its) (its_comers rest q))
            (map_drop (named its) (length (waiting p')) (of q (took r p' q) ++ waiting q)
            ∙ (ap (λ n. drop n (map (named its) (of q (took r p' q) ++ waiting q)))
            (sym (length_map (named its) (waiting p')) ∙ ap length here)
            ∙ ap (drop (length (wait s')))
            (map_both (named its) (of q (took r p' q)) (waiting q)
            ∙ (ap (λ l. l ++ map (named its) (waiting q)) gives
            ∙ ap (λ l. handed_with its r of begun now (seen ++ some) q ++ l) more.first))))
            ∙ ap (λ l. drop (length (wait s')) (handed_with its r of begun now (seen ++ some) q ++ wait y) ++ l) more.came_is);
        first = here;
        last = more.last;
      }

  -- so what is in order there is in order here
  pub in_order_so : (cs : List (Choice × Call T (SoloWaker X))) (s z : Solo F T X) (p : Plain T (SoloWaker X)) (taken came : List Task)
      → Handed cs s z p taken came
      → its_taken cs p ++ waiting (course wakes cs p) ≡ waiting p ++ its_comers cs p → taken ++ wait z ≡ wait s ++ came
  in_order_so cs s z p taken came both is =
      sym (map_both (named its) (its_taken cs p) (waiting (course wakes cs p))
      ∙ (ap (λ l. l ++ map (named its) (waiting (course wakes cs p))) both.taken_is ∙ ap (λ l. taken ++ l) both.last))
      ∙ (ap (map (named its)) is
      ∙ (map_both (named its) (waiting p) (its_comers cs p)
      ∙ (ap (λ l. l ++ map (named its) (its_comers cs p)) both.first ∙ ap (λ l. wait s ++ l) both.came_is)))

module _ {T X : Type 0} where
  abbrev every : Plain T (SoloWaker X) → List ℕ → List ℕ
  every q fs = fs

module _ {T X : Type 0} (r : ℕ) where
  -- of a mark
  taken_same : (m : Mark) (cs : List (Choice × Call T (SoloWaker X))) (p : Plain T (SoloWaker X))
      → takes_in r (of_mark m) cs p ≡ taken wakes m r cs p
  taken_same m [] p = refl
  taken_same m (c ∷ cs) p =
      ap (λ l. of_mark m (does wakes c.0 c.1 p) (took r p (does wakes c.0 c.1 p)) ++ l) (taken_same m cs (does wakes c.0 c.1 p))

  abbrev line_in : Mark → Plain T (SoloWaker X) → List ℕ
  line_in m p = line m r p.due

  came_same : (m : Mark) (cs : List (Choice × Call T (SoloWaker X))) (p : Plain T (SoloWaker X))
      → comes_in r (of_mark m) (line_in m) cs p ≡ came wakes m r cs p
  came_same m [] p = refl
  came_same m (c ∷ cs) p = ap (λ l. came_with m r p (does wakes c.0 c.1 p) ++ l) (came_same m cs (does wakes c.0 c.1 p))

  -- and all, where none is urgent
  abbrev whole_in : Plain T (SoloWaker X) → List ℕ
  whole_in p = whole_line r p.due

  all_taken_same : (cs : List (Choice × Call T (SoloWaker X))) (p : Plain T (SoloWaker X)) → takes_in r every cs p ≡ all_taken wakes r cs p
  all_taken_same [] p = refl
  all_taken_same (c ∷ cs) p = ap (λ l. took r p (does wakes c.0 c.1 p) ++ l) (all_taken_same cs (does wakes c.0 c.1 p))

  all_came_same : (cs : List (Choice × Call T (SoloWaker X))) (p : Plain T (SoloWaker X))
      → comes_in r every whole_in cs p ≡ all_came wakes r cs p
  all_came_same [] p = refl
  all_came_same (c ∷ cs) p = ap (λ l. all_came_with r p (does wakes c.0 c.1 p) ++ l) (all_came_same cs (does wakes c.0 c.1 p))

module _ (F : Type 0) {T X : Type 0} (its : ℕ → Lent) (r : ℕ) where
  -- so they wait, where the run takes alone
  all_so : (m : Mark) (cs : List (Choice × Call T (SoloWaker X))) (p : Plain T (SoloWaker X)) → Marked p
      → is_some (slice_get p.runs r) ≡ true → any (is_others r) p.due ≡ false → takes_alone wakes r cs p ≡ true
      → AllWaitSo its r (of_mark m) (line_in r m) (waits {F = F} m r) cs p
  all_so m [] p marked there alone may = λ s so. line_so its s p so marked m r
  all_so m (c ∷ cs) p marked there alone may =
      let q = does wakes c.0 c.1 p in
      let both = both_true (leaves_to r c.1 p.inside) (takes_alone wakes r cs q) may in
      let one = one_so r wakes c.0 c.1 p marked there alone both.0 in
      (λ s so. line_so its s p so marked m r, there, all_so m cs q one.marked one.is_there one.alone both.1)

  wholly_so : (cs : List (Choice × Call T (SoloWaker X))) (p : Plain T (SoloWaker X)) → Marked p → is_some (slice_get p.runs r) ≡ true
      → any (is_others r) p.due ≡ false → takes_alone wakes r cs p ≡ true → ArePlain (course wakes cs p).futures
      → AllWaitSo its r every (whole_in r) (all_wait {F = F} r) cs p
  wholly_so [] p marked there alone may plain = λ s so. whole_line_so its s p so (sym (unkept_so p marked plain)) r
  wholly_so (c ∷ cs) p marked there alone may plain =
      let q = does wakes c.0 c.1 p in
      let both = both_true (leaves_to r c.1 p.inside) (takes_alone wakes r cs q) may in
      let one = one_so r wakes c.0 c.1 p marked there alone both.0 in
      let before = were_plain r wakes (c ∷ cs) p marked there alone may plain in (
        λ s so. whole_line_so its s p so (sym (unkept_so p marked before)) r,
        there,
        wholly_so cs q one.marked one.is_there one.alone both.1 plain,
      )

module _ {F T X : Type 0} (its : ℕ → Lent) (r : ℕ) where
  module _ (limit : ℕ) (kind : Kind) (is_static : Bool) (calls cs : List (Choice × Call T (SoloWaker X))) (first middle last : Solo F T X)
      (shown others : List (Event T (SoloWaker X))) (number : Who → ℕ) (before after : Owner) (is_new : IsNew limit kind first)
      (counted : counts kind ≡ not is_static)
      (led : Leads its calls (new_owner number) first (new limit is_static) shown before middle)
      (on : Leads its cs before middle (course wakes calls (new limit is_static)) others after last)
      (alone : IsAloneIn r cs middle (course wakes calls (new limit is_static))) where
    abbrev here : Plain T (SoloWaker X)
    here = course wakes calls (new limit is_static)

    below : Below before
    below = leads_below its calls (new_owner number) before first middle (new limit is_static) shown (new_below number) led

    known : Known its before middle here × (here.events ≡ shown)
    known =
        leads_alike its calls (new_owner number) before first middle (new limit is_static) shown
        (new_known its number limit kind is_static first is_new counted) led

    is_alone : IsAlone wakes r cs here
    is_alone =
        record {
          is_there = there_below here.runs r (subst (λ n. r < n) known.0.stands.1.made alone.is_made);
          keeps_alone = others_none r here.due (λ k away. kept_none its middle here known.0.stands k (alone.others k away));
          takes_alone = alone.takes_alone;
        }

    marked : Marked here
    marked = are_marked wakes limit is_static calls

    pub hands_in_order : (m : Mark) → HandsInOrder its r (of_mark m) (waits m r) shown on
    hands_in_order m =
        in_order_so its r (of_mark m) (line_in r m) (waits m r) cs middle last here (handed its r (of_mark m) shown on)
        (come its r (of_mark m) (waits m r) shown on)
        (hands its r (of_mark m) (line_in r m) (waits m r) cs before after middle last here others shown known.0 below known.1
        (all_so F its r m cs here marked is_alone.is_there is_alone.keeps_alone is_alone.takes_alone) on)
        (ap (λ l. l ++ line m r (course wakes cs here).due) (taken_same r m cs here)
        ∙ (in_order r wakes limit is_static calls cs is_alone m ∙ ap (λ l. line m r here.due ++ l) (sym (came_same r m cs here))))

    pub hands_all_in_order : any is_urgent (course wakes cs here).futures ≡ false → HandsInOrder its r every (all_wait r) shown on
    hands_all_in_order none =
        in_order_so its r every (whole_in r) (all_wait r) cs middle last here (handed its r every shown on)
        (come its r every (all_wait r) shown on)
        (hands its r every (whole_in r) (all_wait r) cs before after middle last here others shown known.0 below known.1
        (wholly_so F its r cs here marked is_alone.is_there is_alone.keeps_alone is_alone.takes_alone
        (are_plain (course wakes cs here).futures none)) on)
        (ap (λ l. l ++ whole_line r (course wakes cs here).due) (all_taken_same r cs here)
        ∙ (all_in_order r wakes limit is_static calls cs is_alone none ∙ ap (λ l. whole_line r here.due ++ l)
        (sym (all_came_same r cs here))))
