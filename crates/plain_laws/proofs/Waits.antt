-- What waits for a run, and what it took since some state: so it stands on whatever is done behind a take and before the next.
use Rattle.std.proofs.lemmas.Bool.Decides.{nat_tests}
use Rattle.std.proofs.Common.{arith}
use Rattle.std.proofs.Common.{◌≡◌, ℕ, ◌==◌, not, is_some, cond, drop, Bool, true, false, List, [], ◌∷◌, ◌++◌}
use Rattle.std.proofs.Common.{length, find, Option, Some, None, slice_get, slice_set, refl, sym, subst, ap, ◌∙◌}
use Rattle.executor_parts.specs.declared.mark.Mark.{Mark}
use Rattle.executor_parts.specs.declared.mark.Mark.TheVariants.{Plain as PlainMark}
use Rattle.executor_parts.specs.Marks.{same_mark}
use Rattle.plain_scheduler.specs.State.{Choice, Due, Future, Plain, Running}
use Rattle.plain_scheduler.specs.Lists.{any, on, or, without}
use Rattle.plain_scheduler.specs.Moves.{appended, changed, chosen, is_common, keeps, mark, moved, runs}
use Rattle.plain_scheduler.specs.Takes as takes
use Rattle.plain_scheduler.specs.Calls as calls
use Rattle.plain_laws.specs.Order.{is_others, line}
use Rattle.plain_laws.proofs.Words.{assoc, at, at_more, at_set, drop_front, is_itself, none_as, none_counted, none_last, none_without}
use Rattle.plain_laws.proofs.Words.{set_there}
use Rattle.plain_laws.proofs.Lines.{kept_by_other, line_kept, line_last, one_of}
use Rattle.plain_laws.proofs.Walk.{Keeps, Lasts, each_good, if_so, leaves_good}
use Rattle.plain_laws.proofs.Marked.{Marked, changed_marks, has_mark, marked_alike, marked_lasts, marked_moved, runs_marked}

abbrev pub Begins : List ℕ → List ℕ → Type 0
Begins xs ys = (more : List ℕ) × (ys ≡ xs ++ more)

pub begins_more : (base front l next more : List ℕ) → Begins base (front ++ l) → next ≡ l ++ more → Begins base (front ++ next)
begins_more base front l next more is so = (
  is.0 ++ more,
  ap (λ z. front ++ z) so ∙ (sym (assoc front l more) ∙ (ap (λ z. z ++ more) is.1 ∙ assoc base is.0 more)),
)

abbrev pub taken_of : Running → ℕ
taken_of x = x.taken

-- what waited at the start; what is taken since, if one is: the future that is, and its mark; and how often the run has counted
pub record Since : Type 0 where
  pub run : ℕ
  pub base : Mark → List ℕ
  pub start : ℕ → Option Mark
  pub front : Mark → List ℕ
  pub taken : ℕ
  pub is_one : Bool
  pub future : ℕ
  pub mark : Mark

-- of two calls what was taken and waits, from that of each
pub two_so : (x taken_too behind line_end line_p more came_too came_now : List ℕ) → taken_too ++ line_end ≡ behind ++ came_too
    → x ++ behind ≡ line_p ++ more → came_now ≡ drop (length line_p) (x ++ behind)
    → (x ++ taken_too) ++ line_end ≡ line_p ++ (came_now ++ came_too)
two_so x taken_too behind line_end line_p more came_too came_now rest is now = grind (arith, nat_tests, assoc, drop_front)

-- nothing is taken since, or one is
abbrev pub untaken : ℕ → (Mark → List ℕ) → (ℕ → Option Mark) → ℕ → Since
untaken r base start i =
    record { run = r; base = base; start = start; front = λ m. []; taken = i; is_one = false; future = 0; mark = PlainMark }

abbrev pub with_one : ℕ → (Mark → List ℕ) → (ℕ → Option Mark) → Due → ℕ → Since
with_one r base start d i =
    record { run = r; base = base; start = start; front = λ m. one_of m d; taken = i; is_one = true; future = d.future; mark = d.mark }

pub pick : (P : (Due → Bool) → Type 0) (t : Due → Bool) (ts : List (Due → Bool)) (due : List Due)
    → (any t due ≡ true → P t) → (any t due ≡ false → P (chosen ts due)) → P (chosen (t ∷ ts) due)
pick P t ts due one two = grind (arith, nat_tests)

pub clash : (a : Bool) → a ≡ true → a ≡ false → ⊥
clash a one two = grind (arith, nat_tests)

module _ {T A : Type 0} where
  -- so it stands, with what is taken since
  pub record Waits (k : Since) (p : Plain T A) : Type 0 where
    pub marked : Marked p
    pub known : k.is_one ≡ true → at has_mark p.futures k.future ≡ Some k.mark
    pub stays : (j : ℕ) (m : Mark) → k.start j ≡ Some m → at has_mark p.futures j ≡ Some m
    pub lines : (m : Mark) → Begins (k.base m) (k.front m ++ line m k.run p.due)
    pub alone : any (is_others k.run) p.due ≡ false
    pub counted : at taken_of p.runs k.run ≡ Some k.taken

  module _ (k : Since) where
    pub waits_alike : (p q : Plain T A) → p.futures ≡ q.futures → p.due ≡ q.due → p.runs ≡ q.runs → Waits k p → Waits k q
    waits_alike p q futures due runs good =
        record {
          marked = marked_alike p q futures due good.marked;
          known = λ is. subst (λ fs. at has_mark fs k.future ≡ Some k.mark) futures (good.known is);
          stays = λ j m is. subst (λ fs. at has_mark fs j ≡ Some m) futures (good.stays j m is);
          lines = λ m. subst (λ ds. Begins (k.base m) (k.front m ++ line m k.run ds)) due (good.lines m);
          alone = subst (λ ds. any (is_others k.run) ds ≡ false) due good.alone;
          counted = subst (λ rs. at taken_of rs k.run ≡ Some k.taken) runs good.counted;
        }

    waits_changes : (h : Future T A → Future T A) → ((x : Future T A) → (h x).mark ≡ x.mark) → (f : ℕ) (p : Plain T A) → Waits k p
        → Waits k (changed h f p)
    waits_changes h same f p good =
        record {
          marked = marked_lasts.changes h same f p good.marked;
          known =
              λ is.
              changed_marks (λ of due runs. of k.future ≡ Some k.mark) h same f p (λ fs are. are k.future ∙ good.known is);
          stays =
              λ j m is.
              changed_marks (λ of due runs. of j ≡ Some m) h same f p (λ fs are. are j ∙ good.stays j m is);
          lines =
              λ m.
              changed_marks (λ of due runs. Begins (k.base m) (k.front m ++ line m k.run due)) h same f p (λ fs are. good.lines m);
          alone = changed_marks (λ of due runs. any (is_others k.run) due ≡ false) h same f p (λ fs are. good.alone);
          counted = changed_marks (λ of due runs. at taken_of runs k.run ≡ Some k.taken) h same f p (λ fs are. good.counted);
        }

    waits_appends : (f : ℕ) (p : Plain T A) → is_some (slice_get p.futures f) ≡ true → Waits k p → Waits k (appended f p)
    waits_appends f p is good =
        record {
          marked = marked_lasts.appends f p is good.marked;
          known = good.known;
          stays = good.stays;
          lines =
              λ m.
              begins_more (k.base m) (k.front m) (line m k.run p.due) (line m k.run (appended f p).due)
              (cond (same_mark m (mark f p)) (f ∷ []) []) (good.lines m) (line_last m k.run p.due f (mark f p));
          alone = none_last (is_others k.run) p.due (record { future = f; mark = mark f p; keeper = None }) good.alone refl;
          counted = good.counted;
        }

    pub waits_lasts : Lasts (Waits k)
    waits_lasts =
        record {
          alike = λ p q one two three four good. waits_alike p q one two three good;
          changes = waits_changes;
          appends = waits_appends;
          accepts =
              λ x p good. record {
                marked = marked_lasts.accepts x p good.marked;
                known = λ is. at_more has_mark p.futures x k.future k.mark (good.known is);
                stays = λ j m is. at_more has_mark p.futures x j m (good.stays j m is);
                lines = good.lines;
                alone = good.alone;
                counted = good.counted;
              };
          makes =
              λ x p good. record {
                marked = marked_lasts.makes x p good.marked;
                known = good.known;
                stays = good.stays;
                lines = good.lines;
                alone = good.alone;
                counted = at_more taken_of p.runs x k.run k.taken good.counted;
              };
        }

    waits_moved : (n : Mark) → Keeps (Waits k) (moved k.run (is_common n))
    waits_moved n p good = by (find (is_common n) p.due) refl (marked_moved k.run (is_common n) p good.marked)
      where
        by : (o : Option Due) → find (is_common n) p.due ≡ o
            → Marked (on o (λ d p. record p { due = without (is_common n) p.due ++ record d { keeper = Some k.run } ∷ [] }) p)
            → Waits k (on o (λ d p. record p { due = without (is_common n) p.due ++ record d { keeper = Some k.run } ∷ [] }) p)
        by None is marked = good
        by (Some d) is marked =
            record {
              marked = marked;
              known = good.known;
              stays = good.stays;
              lines =
                  λ m.
                  subst (λ l. Begins (k.base m) (k.front m ++ l)) (sym (line_kept m n k.run p.due d is)) (good.lines m);
              alone =
                  none_last (is_others k.run) (without (is_common n) p.due) (record d { keeper = Some k.run })
                  (none_without (is_others k.run) (is_common n) p.due good.alone) (ap not (is_itself k.run));
              counted = good.counted;
            }

    waits_keeps : (n : Mark) → Keeps (Waits k) (keeps k.run (is_common n))
    waits_keeps n = grind (arith, nat_tests, if_so, waits_moved)

    pub waits_kept : (wakes : A → Option ℕ) (c : Choice) → Keeps (Waits k) (takes.kept wakes c k.run)
    waits_kept wakes c p good = each_good (Waits k) c.keeps (λ mark. keeps k.run (is_common mark)) waits_keeps p good

    -- a run's own count
    pub waits_counts : (h : Running → Running) (n : ℕ) → ((x : Running) → x.taken ≡ k.taken → (h x).taken ≡ n) → (p : Plain T A)
        → Waits k p → Waits (record k { taken = n }) (runs h k.run p)
    waits_counts h n to p good = by (slice_get p.runs k.run) refl (runs_marked h k.run p good.marked) good.counted
      where
        the_same : (a b : ℕ) → Some a ≡ Some b → a ≡ b
        the_same a b is = cc

        by : (o : Option Running) → slice_get p.runs k.run ≡ o
            → Marked (on o (λ x p. record p { runs = slice_set p.runs k.run (h x) }) p)
            → or o (λ x. Some x.taken) None ≡ Some k.taken
            → Waits (record k { taken = n }) (on o (λ x p. record p { runs = slice_set p.runs k.run (h x) }) p)
        by None is marked counted = absurd cc
        by (Some x) is marked counted =
            record {
              marked = marked;
              known = good.known;
              stays = good.stays;
              lines = good.lines;
              alone = good.alone;
              counted =
                  ap (λ o. or o (λ (x : Running). Some x.taken) None) (set_there p.runs k.run (h x) (ap is_some is))
                  ∙ ap Some (to x (the_same x.taken k.taken counted));
            }

    -- another run goes that keeps nothing
    waits_over : (r : ℕ) → Keeps (Waits k) (runs (λ run. record run { is_over = true }) r)
    waits_over r p good =
        by (slice_get p.runs r) refl (runs_marked (λ run. record run { is_over = true }) r p good.marked)
      where
        by : (o : Option Running) → slice_get p.runs r ≡ o
            → Marked (on o (λ x p. record p { runs = slice_set p.runs r (record x { is_over = true }) }) p)
            → Waits k (on o (λ x p. record p { runs = slice_set p.runs r (record x { is_over = true }) }) p)
        by None is marked = good
        by (Some x) is marked =
            record {
              marked = marked;
              known = good.known;
              stays = good.stays;
              lines = good.lines;
              alone = good.alone;
              counted = at_set taken_of p.runs r x (record x { is_over = true }) k.run is refl ∙ good.counted;
            }

    pub waits_gone : (wakes : A → Option ℕ) (c : Choice) (r : ℕ) → not (k.run == r) ≡ true → Keeps (Waits k) (calls.gone wakes c r)
    waits_gone wakes c r away = grind (arith, nat_tests, none_counted, none_as, kept_by_other, leaves_good, waits_lasts, waits_over)
