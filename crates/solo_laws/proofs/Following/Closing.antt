-- A close takes the table's futures out, and hands them out one after the other, in the order of spawning.
use Rattle.std.proofs.Common.{◌≡◌, ℕ, suc, ◌+◌, ◌≤◌, not, true, false, List, [], ◌∷◌, ◌++◌, length, map, Option, Some, None}
use Rattle.std.proofs.Common.{is_some, refl, sym, ap, subst, ◌∙◌, append_assoc, arith}
use Rattle.queue_steps.specs.ClosableQueue.{ClosableQueue, appended, most_accepted}
use Rattle.executor_parts.specs.Places.{Entry, place_of}
use Rattle.solo.specs.declared.names.Task.{Task}
use Rattle.solo.specs.declared.names.SoloWaker.{SoloWaker}
use Rattle.solo.specs.declared.owed.Lent.{Lent}
use Rattle.solo.specs.declared.solo.Solo.{Solo}
use Rattle.solo.specs.Line.{pushed, accepts}
use Rattle.solo.specs.Solo.{hands}
use Rattle.solo.specs.Table.{TableValue, first_parts, rest_of, rest_table}
use Rattle.solo.specs.Turns.{silent}
use Rattle.solo.specs.Closing as closing
use Rattle.plain_scheduler.specs.State.{Drops, Code, Close, Choice, Plain}
use Rattle.plain_scheduler.specs.Moves.{changed}
use Rattle.plain_scheduler.specs.Calls as calls
use Rattle.plain_scheduler.specs.Calls.{living_from}
use Rattle.solo_laws.specs.Closing.{IsClosing, HandsOut, AllThere}
use Rattle.solo_laws.specs.Road.{Follows, count_of, lents, drops, awaiters, wakes}
use Rattle.solo_laws.specs.Tabled.{Stands, Row, named, row, row_of, at_home}
use Rattle.solo_laws.proofs.Following.Lists.{map_append, length_map}
use Rattle.solo_laws.proofs.Following.Seeing.{seen}
use Rattle.solo_laws.proofs.Following.Inside.{same_inside}
use Rattle.solo_laws.proofs.Following.Adding.{map_twice}
use Rattle.solo_laws.proofs.Following.Leaving.{heads, tails}
use Rattle.solo_laws.proofs.Following.Lines.{accepts_more, pushed_life}
use Rattle.solo_laws.proofs.Following.Leaking.{pushed_is}
use Rattle.solo_laws.proofs.Following.Sparing.{dropped_spared}
use Rattle.solo_laws.proofs.Following.Tabling.{leaves_few}

module _ {F T X : Type 0} (name : ℕ → Task) where
  -- tables and wakers that are to be called are nothing to the tasks
  pub elsewhere : (table going : TableValue F) (leaving : ClosableQueue Task) (s : Solo F T X) (p : Plain T (SoloWaker X))
      → Follows name s p → Follows name (record s { table = table; going = going; leaving = leaving }) p
  elsewhere table going leaving s p r = record {
    numbered = r.numbered;
    tasks = r.tasks;
    within = r.within;
    queued = r.queued;
    once = r.once;
    ready = r.ready;
    asleep = r.asleep;
    awaiters = r.awaiters;
    inside = r.inside;
  }

-- with its future
abbrev filled : Row → Row
filled r = (r.0, r.1, true)

module _ {F : Type 0} where
  full : (es : List (Entry F (Option Task))) → AllThere es → map row es ≡ map filled (map row es)
  full [] is = refl
  full (e ∷ es) is =
      ap (λ b. (place_of e, e.waker, b) ∷ map (row {F = F}) es)
      (heads (is_some e.future) true (map (λ (e : Entry F (Option Task)). is_some e.future) es)
      (map (λ (e : Entry F (Option Task)). true) es) is)
      ∙ ap (λ rs. filled (row e) ∷ rs)
      (full es (tails (is_some e.future) true (map (λ (e : Entry F (Option Task)). is_some e.future) es)
      (map (λ (e : Entry F (Option Task)). true) es) is))

there : {B : Type 0} (o : Option B) → is_some o ≡ true → (b : B) × (o ≡ Some b)
there None is = absurd cc
there (Some b) is = (b, refl)

module _ {F T X : Type 0} (its : ℕ → Lent) where
  module _ (s : Solo F T X) (p : Plain T (SoloWaker X)) (both : Stands its s p) (owned : p.is_static ≡ false)
      (all : AllThere s.table.entries) where
    abbrev fs : List ℕ
    fs = living_from 0 p.futures

    pub entries_long : length s.table.entries ≡ length fs
    entries_long =
        sym (length_map row s.table.entries)
        ∙ (ap (λ rows. length rows) both.1.rows ∙ length_map (row_of its (not p.is_static) (at_home its s.cells)) fs)

    -- the table is taken out
    pub begins : IsClosing its fs [] fs (closing.closed s) p
    begins = record {
      whole = p;
      same = refl;
      follows = elsewhere (named its) s.going s.table s.leaving s p both.0;
      living = refl;
      parts = refl;
      owned = owned;
      table = both.1.going;
      going =
          full s.table.entries all
          ∙ (ap (map filled) both.1.rows
          ∙ (map_twice (row_of its (not p.is_static) (at_home its s.cells)) filled fs
          ∙ ap (λ b. map (row_of its (not b) (λ f. true)) fs) owned));
      leaving = both.1.leaving;
      leaving_open = both.1.leaving_open;
      leaving_limit = both.1.leaving_limit;
      leaving_life = subst (λ n. count_of s.leaving.accepted + n ≤ most_accepted) entries_long (leaves_few its s p both owned);
    }

  -- the codes of a close have nothing in hand
  pub inside_out : {all gone left : List ℕ} (s : Solo F T X) (p : Plain T (SoloWaker X)) (rest : List (Code T (SoloWaker X)))
      (others : List ℕ) → p.inside ≡ Close others all ∷ rest → IsClosing its all gone left s p
      → IsClosing its all gone left s (record p { inside = rest })
  inside_out {all} s p rest others is r =
      let w : Plain T (SoloWaker X) = r.whole in
      let it : w.inside ≡ Close others all ∷ rest = sym (ap (λ (p : Plain T (SoloWaker X)). p.inside) r.same) ∙ is in
      record {
        whole = record w { inside = rest };
        same = ap (λ (p : Plain T (SoloWaker X)). record p { inside = rest }) r.same;
        follows =
            seen (named its) s w w.events rest
            (same_inside (named its) (length w.futures) s.cells w.inside rest r.follows.inside
            (sym (ap (λ cs. lents cs) it)) (sym (ap (λ cs. drops cs) it)) (sym (ap (λ cs. awaiters cs) it)))
            r.follows;
        living = r.living;
        parts = r.parts;
        owned = r.owned;
        table = r.table;
        going = r.going;
        leaving = r.leaving;
        leaving_open = r.leaving_open;
        leaving_limit = r.leaving_limit;
        leaving_life = r.leaving_life;
      }

  module _ (c : Choice) (all gone : List ℕ) (f : ℕ) (left : List ℕ) (s : Solo F T X) (p : Plain T (SoloWaker X))
      (r : IsClosing its all gone (f ∷ left) s p) where
    abbrev marked : Plain T (SoloWaker X)
    marked = changed (λ future. record future { is_dropped = true }) f p

    abbrev after : Plain T (SoloWaker X)
    after = calls.close wakes c (f ∷ left) all p

    -- the waker of its task is to be called
    abbrev now : Solo F T X
    now = record s { going = rest_table s.going; leaving = pushed (named its f) s.leaving }

    many : length gone + suc (length left) ≤ r.whole.limit
    many =
        let long : length (gone ++ f ∷ left) ≡ length gone + suc (length left) = long_by gone in
        subst (λ n. n ≤ r.whole.limit) long
        (subst (λ ns. length ns ≤ r.whole.limit) (r.living ∙ r.parts) r.follows.within)
      where
        long_by : (ns : List ℕ) → length (ns ++ f ∷ left) ≡ length ns + suc (length left)
        long_by [] = omega arith
        long_by (n ∷ ns) = let it = long_by ns in omega (arith, it)

    fits : accepts s.leaving ≡ true
    fits =
        let long : length s.leaving.items ≡ length gone = ap (λ ts. length ts) r.leaving ∙ length_map (named its) gone in
        accepts_more s.leaving r.whole.limit r.leaving_open r.leaving_limit
        (let it = many in omega (arith, long, it)) (let it = r.leaving_life in omega (arith, it))

    is_pushed : pushed (named its f) s.leaving ≡ appended s.leaving (named its f)
    is_pushed = pushed_is (named its f) s.leaving fits

    goes : (es : List (Entry F (Option Task))) → s.going.entries ≡ es
        → (future : F) × (closing.drain_answer s ≡ Some (hands (Some future) None silent)) × (closing.drained s ≡ now)
        × (map row (rest_of s.going.entries) ≡ map (row_of its true (λ f. true)) left)
    goes [] is =
        let none : [] ≡ map (row_of its true (λ f. true)) (f ∷ left) = sym (ap (map (row {F = F})) is) ∙ r.going in absurd cc
    goes (e ∷ es) is =
        let rows : row e ∷ map row es ≡ map (row_of its true (λ f. true)) (f ∷ left) = sym (ap (map (row {F = F})) is) ∙ r.going in
        let first : row e ≡ row_of its true (λ f. true) f =
        heads (row e) (row_of its true (λ f. true) f) (map row es) (map (row_of its true (λ f. true)) left) rows in
        let future : (x : F) × (e.future ≡ Some x) = there e.future (ap (λ (r : Row). r.2) first) in
        let waker : e.waker ≡ Some (named its f) = ap (λ (r : Row). r.1) first in
        let first_going : Solo F T X = closing.first_going s in (
          future.0,
          ap (λ es. closing.drain_answer_by (first_parts es) first_going) is
              ∙ ap (λ o. Some (hands o None silent)) future.1,
          ap (λ es. closing.drained_by (first_parts es) first_going) is
              ∙ ap (λ w. closing.to_wake w first_going) waker,
          ap (λ es. map row (rest_of es)) is
              ∙ tails (row e) (row_of its true (λ f. true) f) (map row es) (map (row_of its true (λ f. true)) left) rows,
        )

    abbrev whole : Plain T (SoloWaker X)
    whole = record r.whole { inside = Close left all ∷ r.whole.inside; events = r.whole.events ++ Drops f ∷ [] }

    stands : map row (rest_of s.going.entries) ≡ map (row_of its true (λ f. true)) left
        → IsClosing its all (gone ++ f ∷ []) left now after
    stands rows = record {
      whole = whole;
      same =
          ap (λ (p : Plain T (SoloWaker X)). record p { inside = Close left all ∷ p.inside; events = p.events ++ Drops f ∷ [] })
          (dropped_spared f p ∙ r.same);
      follows =
          seen (named its) now r.whole (r.whole.events ++ Drops f ∷ []) (Close left all ∷ r.whole.inside)
          (same_inside (named its) (length r.whole.futures) s.cells r.whole.inside (Close left all ∷ r.whole.inside)
          r.follows.inside refl refl refl)
          (elsewhere (named its) s.table (rest_table s.going) (pushed (named its f) s.leaving) s r.whole r.follows);
      living = r.living;
      parts = r.parts ∙ sym (append_assoc gone (f ∷ []) left);
      owned = r.owned;
      table = r.table;
      going = rows;
      leaving =
          ap (λ (q : ClosableQueue Task). q.items) is_pushed
          ∙ (ap (λ (ts : List Task). ts ++ named its f ∷ []) r.leaving ∙ sym (map_append (named its) gone (f ∷ [])));
      leaving_open = ap (λ (q : ClosableQueue Task). q.closed) is_pushed ∙ r.leaving_open;
      leaving_limit = ap (λ (q : ClosableQueue Task). q.capacity) is_pushed ∙ r.leaving_limit;
      leaving_life = pushed_life (named its f) (length left) s.leaving r.leaving_life;
    }

    pub hands_out : HandsOut its s p after all gone f left
    hands_out =
        let it = goes s.going.entries refl in
        record {
          future = it.0;
          out = it.1;
          stands = subst (λ (z : Solo F T X). IsClosing its all (gone ++ f ∷ []) left z after) (sym it.2) (stands it.3);
          seen = ap (λ (p : Plain T (SoloWaker X)). p.events ++ Drops f ∷ []) (dropped_spared f p);
          inside = ap (λ (p : Plain T (SoloWaker X)). Close left all ∷ p.inside) (dropped_spared f p);
        }
