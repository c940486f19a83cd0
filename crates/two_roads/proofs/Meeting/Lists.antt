-- So lists of acts happen, one after the other.
use Rattle.std.proofs.Common.{◌≡◌, ℕ, suc, ◌+◌, ◌*◌, ◌≤◌, ◌<◌, ◌++◌, not, true, List, [], ◌∷◌, length, append_assoc, append-nil}
use Rattle.std.proofs.Common.{refl, sym, ap, subst, ◌∙◌, arith}
use Rattle.std.specs.Prelude.{reverse}
use Rattle.queue_steps.specs.ClosableQueue.{most_accepted}
use Rattle.executor_model.specs.declared.kind.Kind.{Kind as MachineKind}
use Rattle.executor_model.specs.Steps.{Machine, is_static_kind, stack, start}
use Rattle.solo.specs.declared.names.Kind.{Kind}
use Rattle.solo.specs.declared.names.SoloWaker.{SoloWaker}
use Rattle.solo.specs.declared.solo.Solo.{Solo}
use Rattle.solo.specs.Solo.{IsNew, counts}
use Rattle.plain_scheduler.specs.State.{Choice, Event, Plain, Who}
use Rattle.plain_scheduler.specs.Calls.{Call, course, does, new}
use Rattle.machine_roads.specs.Within.{Act, AreActs, IsAct, is_on_way}
use Rattle.solo_laws.specs.Courses.{Acts, Leads, leads, stays}
use Rattle.solo_laws.specs.Making.{by_number, left_in}
use Rattle.solo_laws.specs.Owner.{Owner, new_owner}
use Rattle.solo_laws.specs.Road.{HasLife, wakes}
use Rattle.solo_laws.proofs.Happening.Behind.{telling}
use Rattle.solo_laws.proofs.Happening.Goers.{goers}
use Rattle.solo_laws.proofs.Happening.Growing.{call_grows}
use Rattle.solo_laws.proofs.Happening.Lasting.{acts_live, few_entries}
use Rattle.solo_laws.proofs.Happening.Lists.{counts_futures, counts_runs, has_life, has_number, none_yet, none_yet_came, pays}
use Rattle.solo_laws.proofs.Happening.Places.{FewKept, none_kept}
use Rattle.solo_laws.proofs.Showing.Courses.{Known, leads_alike, new_known}
use Rattle.two_roads.specs.Acting.{AreOfSteps, IsOfStep, WalksAlike, left_of}
use Rattle.two_roads.specs.Happening.{AreActed, IsActed, MayAct, MemoryFits, NamesAlike, call_by, comes_in, queued_in, waker_by}
use Rattle.two_roads.specs.Renaming.{call_as}
use Rattle.two_roads.specs.Together.{nothing, numbered}
use Rattle.two_roads.proofs.InStep.{steps_together}
use Rattle.two_roads.proofs.Meeting.Met.{are_more, each_acts}
use Rattle.two_roads.proofs.Meeting.Queueing.{counted_as, counted_back, counted_so}

left_more : (a : Act) (acts : List Act) (s : Machine) → left_of s (acts ++ a ∷ []) ≡ a.left
left_more a [] s = refl
left_more a (b ∷ acts) s = left_more a acts b.left

course_more : {T X : Type 0} (cs : List (Choice × Call T (SoloWaker X))) (x : Choice × Call T (SoloWaker X)) (p : Plain T (SoloWaker X))
    → course wakes (cs ++ x ∷ []) p ≡ does wakes x.0 x.1 (course wakes cs p)
course_more [] x p = refl
course_more (y ∷ cs) x p = course_more cs x (does wakes y.0 y.1 p)

no_more : (n t : ℕ) → n < t → n ≤ t
no_more n t below = omega (arith, below)

module _ {F T X : Type 0} (number : X → ℕ) where
  -- one more call, which is of one more act
  pub record More (s : Machine) (acts : List Act) (a : Act) (cs : List (Choice × Call T (SoloWaker X))) (c : Choice)
      (call : Call T (SoloWaker X)) (owner now : Owner) (y z : Solo F T X) (p : Plain T (SoloWaker X)) : Type 0 where
    pub shown : List (Event T (SoloWaker X))
    pub leads : Leads by_number (cs ++ (c, call) ∷ []) owner y p shown now z
    pub of : AreOfSteps number s (acts ++ a ∷ []) leads

  one_more : (a : Act) (c : Choice) (call : Call T (SoloWaker X)) (some : List (Event T (SoloWaker X))) (acts : List Act) (s : Machine)
      (cs : List (Choice × Call T (SoloWaker X))) (owner mid now : Owner) (y m z : Solo F T X) (p : Plain T (SoloWaker X))
      (shown : List (Event T (SoloWaker X))) (led : Leads by_number cs owner y p shown mid m) → AreOfSteps number s acts led
      → (how : Acts by_number mid c m (course wakes cs p) call some now z) → length (course wakes cs p).lying ≤ c.tells
      → IsOfStep number (left_of s acts) a (course wakes cs p) c call → WalksAlike number (left_of s acts) a how
      → More s acts a cs c call owner now y z p
  one_more a c call some [] s cs owner mid now y m z p shown (stays owner' y' p') of how many is walks = record {
    shown = some ++ [];
    leads = leads c call [] owner now now y z z p some [] many how (stays now z (does wakes c call p));
    of = (is, walks, tt);
  }
  one_more a c call some [] s cs owner mid now y m z p shown (leads c' call' rest b e last t u v r one others many' acts' on) of how many is
      walks = absurd of
  one_more a c call some (b ∷ acts) s cs owner mid now y m z p shown (stays owner' y' p') of how many is walks = absurd of
  one_more a c call some (b ∷ acts) s cs owner mid now y m z p shown (leads c' call' rest o e last t u v r one others many' acts' on) of how
      many is walks =
      let more =
      one_more a c call some acts b.left rest e last now u v z (does wakes c' call' r) others on of.2 how many is walks in
      record {
        shown = one ++ more.shown;
        leads = leads c' call' (rest ++ (c, call) ∷ []) o e now t u z r one more.shown many' acts' more.leads;
        of = (of.0, of.1, more.of);
      }

module _ {F T X : Type 0} (number : X → ℕ) (outside : ℕ → X) (numbers : (n : ℕ) → number (outside n) ≡ n) (value : T) (future : F)
    (limit : ℕ) (kind : MachineKind) (solo_kind : Kind) (parties : ℕ) (first : Solo F T X) (before : Who → ℕ)
    (is_new : IsNew limit solo_kind first) (counted : counts solo_kind ≡ not (is_static_kind kind)) where
  abbrev s0 : Machine
  s0 = start limit kind parties

  abbrev p0 : Plain T (SoloWaker X)
  p0 = new limit (is_static_kind kind)

  -- here acts and calls have led
  record Here (s : Machine) (owner : Owner) (y : Solo F T X) (p : Plain T (SoloWaker X)) : Type 0 where
    pub acts : List Act
    pub calls : List (Choice × Call T (SoloWaker X))
    pub shown : List (Event T (SoloWaker X))
    pub they : AreActs s0 acts
    pub at : left_of s0 acts ≡ s
    pub leads : Leads by_number calls (new_owner before) first p0 shown owner y
    pub there : course wakes calls p0 ≡ p
    pub of : AreOfSteps number s0 acts leads

  one_acts : (s : Machine) (owner : Owner) (y : Solo F T X) (p : Plain T (SoloWaker X)) → Here s owner y p → NamesAlike s owner y p
      → (a : Act) → IsAct s a → is_on_way (reverse (stack s a.party)) a.first ≡ true → MayAct number s a owner y p value outside
      → IsActed number s a owner y p
  one_acts s owner y p here =
      subst
      (λ s. NamesAlike s owner y p → (a : Act) → IsAct s a → is_on_way (reverse (stack s a.party)) a.first ≡ true
      → MayAct number s a owner y p value outside → IsActed number s a owner y p)
      here.at
      (subst
      (λ p. NamesAlike (left_of s0 here.acts) owner y p → (a : Act) → IsAct (left_of s0 here.acts) a
      → is_on_way (reverse (stack (left_of s0 here.acts) a.party)) a.first ≡ true
      → MayAct number (left_of s0 here.acts) a owner y p value outside → IsActed number (left_of s0 here.acts) a owner y p)
      here.there
      (each_acts number outside numbers value future limit kind solo_kind parties here.acts here.calls first y here.shown before owner
      here.they is_new counted here.leads here.of))

  -- what an act is there
  record Step (s : Machine) (owner : Owner) (y : Solo F T X) (a : Act) (c : Choice) (call : Call T (SoloWaker X))
      (shown : List (Event T (SoloWaker X))) (now : Owner) (z : Solo F T X) (p : Plain T (SoloWaker X)) : Type 0 where
    pub how : Acts by_number owner c y p call shown now z
    pub many : length p.lying ≤ c.tells
    pub is : IsOfStep number s a p c call
    pub walks : WalksAlike number s a how

  next_here : (s : Machine) (owner : Owner) (y : Solo F T X) (p : Plain T (SoloWaker X)) → Here s owner y p → (a : Act) → IsAct s a
      → is_on_way (reverse (stack s a.party)) a.first ≡ true → (e : IsActed number s a owner y p)
      → Here a.left e.now e.after (does wakes e.choice e.call p)
  next_here s owner y p here a it way e =
      let step =
      subst (λ s. Step s owner y a e.choice e.call e.shown e.now e.after (course wakes here.calls p0)) (sym here.at)
      (subst (Step s owner y a e.choice e.call e.shown e.now e.after) (sym here.there)
      (record { how = e.acts; many = no_more (length p.lying) e.choice.tells e.tells; is = e.of; walks = e.walks })) in
      let more =
      one_more number a e.choice e.call e.shown here.acts s0 here.calls (new_owner before) owner e.now first y e.after p0 here.shown
      here.leads here.of step.how step.many step.is step.walks in
      record {
        acts = here.acts ++ a ∷ [];
        calls = here.calls ++ (e.choice, e.call) ∷ [];
        shown = more.shown;
        they =
            are_more a here.acts s0 here.they (subst (λ s. IsAct s a) (sym here.at) it)
            (subst (λ s. is_on_way (reverse (stack s a.party)) a.first ≡ true) (sym here.at) way);
        at = left_more a here.acts s0;
        leads = more.leads;
        there = course_more here.calls (e.choice, e.call) p0 ∙ ap (does wakes e.choice e.call) here.there;
        of = more.of;
      }

  go : (rest : List Act) (s : Machine) (owner : Owner) (y : Solo F T X) (p : Plain T (SoloWaker X)) → (here : Here s owner y p)
      → NamesAlike s owner y p → Known by_number owner y p → FewKept p.due → (came : ℕ) → length p.futures ≤ came
      → HasLife (queued_in came rest + 3 * 512 * goers p.runs) y.lines → length p.futures + queued_in came rest ≤ most_accepted
      → length p.runs + queued_in came rest ≤ most_accepted → AreActs s rest
      → MemoryFits number value outside rest s owner y p → (all : List Act) → here.acts ++ rest ≡ all
      → AreActed number limit kind parties all first before
  unfolding next_here
  go [] s owner y p here names known kept came few_came life futures runs they fits all is =
      let whole : here.acts ≡ all = sym (append-nil here.acts) ∙ is in
      subst (λ acts. AreActed number limit kind parties acts first before) whole
      (record {
        same = record {
          both_new = record { solo_kind = solo_kind; is_new = is_new; counted = counted };
          calls = here.calls;
          last = y;
          shown = here.shown;
          after = owner;
          led = here.leads;
          same = here.of;
        };
        told =
            (steps_together by_number number limit kind solo_kind parties here.acts here.calls first y here.shown before owner here.they
            is_new counted here.leads here.of).1;
      })
  go (a ∷ rest) s owner y p here names known kept came few_came life futures runs they fits all is =
      let now_came = came + comes_in a.first in
      let n = queued_in (came + comes_in a.first) rest in
      let k = queued_in came (a ∷ rest) in
      let e =
      one_acts s owner y p here names a they.0 they.1
      (λ made made_is.
      let call = call_by value outside made in
      let so = counted_as (λ v. value) (waker_by value outside) a.first made (counted_so s a.party a.first made made_is) in
      let most = so.queues came in
      let least = none_yet_came came call in
      record {
        life = has_life came k owner y p known kept few_came (telling (suc (length p.lying))) call (omega (arith, most)) life;
        has_number = has_number k owner y p call (omega (arith, most, least)) futures runs;
        memory = fits.0 made made_is;
      }) in
      let q = does wakes e.choice e.call p in
      let grows = call_grows e.choice e.call p in
      let many : length p.lying ≤ e.choice.tells = no_more (length p.lying) e.choice.tells e.tells in
      let one : Leads by_number ((e.choice, e.call) ∷ []) owner y p (e.shown ++ []) e.now e.after =
      leads e.choice e.call [] owner e.now e.now y e.after e.after p e.shown [] many e.acts (stays e.now e.after q) in
      let known_on =
      (leads_alike by_number ((e.choice, e.call) ∷ []) owner e.now y e.after p (e.shown ++ []) known one).0 in
      let so =
      counted_back nothing (numbered number) a.first e.call
      (counted_so s a.party a.first (call_as nothing (numbered number) e.call) e.of.made) in
      let counts = so.queues came in
      let comes_one = so.comes_so in
      let one_future = counts_futures came e.call in
      let one_run = counts_runs e.call in
      let paid = pays came owner y p known kept e.choice e.call in
      let entries : length y.table.entries ≤ came =
      (let few = few_entries by_number y p known.stands in omega (arith, few, few_came)) in
      go rest a.left e.now e.after q (next_here s owner y p here a they.0 they.1 e) e.names known_on (grows.kept kept) now_came
      (let most = grows.most_futures in omega (arith, most, few_came, comes_one))
      (acts_live by_number owner e.choice y p (n + 3 * 512 * goers q.runs) (k + 3 * 512 * goers p.runs) came
      (left_in by_number owner y p p.inside) entries (omega arith) life e.now e.after e.call e.shown e.acts (omega (arith, paid, counts)))
      (let most = grows.most_futures in omega (arith, most, futures, one_future, counts))
      (let most = grows.most_runs in omega (arith, most, runs, one_run, counts)) they.2
      (fits.1 e) all (append_assoc here.acts (a ∷ []) rest ∙ is)

  pub acts_go : (acts : List Act) → AreActs s0 acts → queued_in 0 acts ≤ most_accepted
      → MemoryFits number value outside acts s0 (new_owner before) first p0 → AreActed number limit kind parties acts first before
  acts_go acts they most fits =
      go acts s0 (new_owner before) first p0
      (record {
        acts = [];
        calls = [];
        shown = [];
        they = tt;
        at = refl;
        leads = stays (new_owner before) first p0;
        there = refl;
        of = tt;
      })
      (record { wakers = tt; ticks = λ t. refl; once = refl })
      (new_known by_number before limit solo_kind (is_static_kind kind) first is_new counted) none_kept 0 (omega arith)
      (subst (HasLife (queued_in 0 acts + 0)) (sym is_new.lines) (none_yet limit (queued_in 0 acts + 0) (omega (arith, most))))
      (omega (arith, most))
      (omega (arith, most)) they fits acts refl
