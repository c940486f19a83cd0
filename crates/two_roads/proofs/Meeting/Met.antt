-- Wherever acts and calls have led, each further act is a call that the owner makes.
use Rattle.std.proofs.Common.{◌≡◌, ℕ, ◌==◌, ◌≤◌, ◌<◌, ◌++◌, nat_lt, not, true, List, [], ◌∷◌, length, None}
use Rattle.std.proofs.Common.{slice_index_or, refl, sym, ap, subst, ◌∙◌, arith}
use Rattle.std.specs.Prelude.{reverse}
use Rattle.executor_model.specs.declared.kind.Kind.{Kind as MachineKind}
use Rattle.executor_model.specs.declared.op.Waker.{Waker}
use Rattle.executor_model.specs.declared.step.StepError.TheVariants.{NoSuch}
use Rattle.executor_model.specs.Steps.{Machine, after as after_step, is_static_kind, part_refusal, party_of, refusal, stack, start}
use Rattle.executor_model.specs.World.{done}
use Rattle.executor_model.proofs.Quiet.Resting.{rests}
use Rattle.executor_model.proofs.Steps.Reached.{Reached, deep-here, reached-more, run-first}
use Rattle.solo.specs.declared.names.Kind.{Kind}
use Rattle.solo.specs.declared.names.SoloWaker.{SoloWaker}
use Rattle.solo.specs.declared.solo.Solo.{Solo}
use Rattle.solo.specs.Solo.{IsNew, counts}
use Rattle.plain_scheduler.specs.State.{Choice, Event, Plain, Who}
use Rattle.plain_scheduler.specs.Calls as calls
use Rattle.plain_scheduler.specs.Calls.{Call, course, does, new}
use Rattle.machine_roads.specs.View.{Output, wakes as wakes_in}
use Rattle.machine_roads.specs.Within.{Act, ActAlike, ActsBy, AreActs, IsAct, IsMade, StandsAlike, alike, is_on_way, nowhere, standing}
use Rattle.machine_roads.specs.Within.{start_in}
use Rattle.machine_roads.proofs.Acts.{acts_alike, goes_rest, taken_over}
use Rattle.machine_roads.proofs.Calling.{begin_alike}
use Rattle.machine_roads.proofs.LoneRuns.{passed, within}
use Rattle.machine_roads.proofs.CopiesBehind.{act_copies}
use Rattle.machine_roads.proofs.TicksBehind.{act_ticks}
use Rattle.solo_laws.specs.Courses.{Leads, leads, stays}
use Rattle.solo_laws.specs.Making.{Allows, Happens, Wish, by_number}
use Rattle.solo_laws.specs.Owner.{Owner, new_owner}
use Rattle.solo_laws.specs.Road.{wakes}
use Rattle.solo_laws.proofs.Happening.Each.{happens}
use Rattle.solo_laws.proofs.Happening.Free.{acts_vacant}
use Rattle.solo_laws.proofs.Happening.Lists.{next_free, still_known}
use Rattle.solo_laws.proofs.Happening.Vacant.{IsVacant}
use Rattle.solo_laws.proofs.Showing.Courses.{Known, leads_alike, new_known}
use Rattle.two_roads.specs.Acting.{AreOfSteps, acts_by, left_of}
use Rattle.two_roads.specs.Happening.{FitsMemory, IsActed, MayAct, NamesAlike, call_by}
use Rattle.two_roads.specs.Refusing.{refused_in}
use Rattle.two_roads.specs.Renaming.{lying_as, renamed}
use Rattle.two_roads.specs.Together.{nothing, numbered}
use Rattle.two_roads.proofs.Acted.{seen_so, tells_at}
use Rattle.two_roads.proofs.Inner.{seen_in}
use Rattle.two_roads.proofs.InStep.{OthersRest, rest_still, steps_same}
use Rattle.two_roads.proofs.Meeting.Allowed.{FitsSpawn, allowed, came_all}
use Rattle.two_roads.proofs.Meeting.Refused.{KnowsOf, refusal_same}
use Rattle.two_roads.proofs.Meeting.TicksMet.{behind, of_ticks}
use Rattle.two_roads.proofs.Meeting.Said as said
use Rattle.two_roads.proofs.Meeting.Said.{call_is, says}
use Rattle.two_roads.proofs.Refusing.{lie_in}
use Rattle.two_roads.proofs.Words.{length_map}

pub are_more : (a : Act) (acts : List Act) (s : Machine) → AreActs s acts → IsAct (left_of s acts) a
    → is_on_way (reverse (stack (left_of s acts) a.party)) a.first ≡ true → AreActs s (acts ++ a ∷ [])
are_more a [] s they it way = (it, way, tt)
are_more a (b ∷ acts) s they it way = (they.0, they.1, are_more a acts b.left they.2 it way)

-- where the last of these acts begins, and where it comes to
pub record AtEnd (s : Machine) (q : Plain Output Waker) (acts : List Act) (a : Act) : Type 0 where
  pub go : ActAlike s q acts
  pub plain : Plain Output Waker
  pub is : course wakes_in (acts_by s q acts go) q ≡ plain
  pub reached : Reached (left_of s acts)
  pub stands : StandsAlike (standing (left_of s acts) a.party) plain
  pub behind : Plain Output Waker
  pub by : ActsBy (left_of s acts) a.party a.first plain behind a.left.world (start_in (left_of s acts) a)
  pub there : StandsAlike (standing a.left a.party) behind

at_end : (a : Act) (acts : List Act) (s : Machine) → Reached s → (before : ℕ) → OthersRest before s → (q : Plain Output Waker)
    → StandsAlike (standing s before) q → AreActs s acts → IsAct (left_of s acts) a → ActAlike s q (acts ++ a ∷ []) → AtEnd s q acts a
at_end a [] s reached before others q stands they it go = record {
  go = tt;
  plain = q;
  is = refl;
  reached = reached;
  stands = subst (λ e. StandsAlike e q) (taken_over s before a.party others it.others (before == a.party) refl) stands;
  behind = go.0;
  by = go.1;
  there = go.2;
}
at_end a (b ∷ acts) s reached before others q stands they it go =
    let k = run-first b.first b.steps s b.left they.0.made in
    let rest =
    at_end a acts b.left (reached-more (b.first ∷ b.steps) s b.left reached they.0.made) b.party
    (goes_rest b.steps (after_step s b.first) b.left b.party they.0.rests k.1 (rest_still b.party s b.first they.0.its they.0.others))
    go.0 go.2 they.2 it go.3 in
    record {
      go = (go.0, go.1, go.2, rest.go);
      plain = rest.plain;
      is = ap (course wakes_in (acts_by b.left go.0 acts rest.go)) go.1.so ∙ rest.is;
      reached = rest.reached;
      stands = rest.stands;
      behind = rest.behind;
      by = rest.by;
      there = rest.there;
    }

-- from a new machine on
pub ends_there : (limit : ℕ) (kind : MachineKind) (parties : ℕ) (acts : List Act) (a : Act) → AreActs (start limit kind parties) acts
    → IsAct (left_of (start limit kind parties) acts) a
    → is_on_way (reverse (stack (left_of (start limit kind parties) acts) a.party)) a.first ≡ true
    → AtEnd (start limit kind parties) (new limit (is_static_kind kind)) acts a
ends_there limit kind parties acts a they it way =
    let s = start limit kind parties in
    let reached : Reached s = record { limit = limit; kind = kind; parties = parties; steps = []; is = refl } in
    let empty : (n : ℕ) → stack s n ≡ [] = rests s (deep-here s reached) (λ party. refl) in
    let q : Plain Output Waker = new limit (is_static_kind kind) in
    let stands : StandsAlike (standing s 0) q =
    subst (λ xs. StandsAlike (done s.world (reverse xs)) q) (sym (empty 0)) (alike nowhere (begin_alike limit kind parties)) in
    at_end a acts s reached 0 (λ n apart. empty n) q stands they it
    (acts_alike limit kind parties (acts ++ a ∷ []) (are_more a acts s they it way))

fewer : (n m t : ℕ) → n ≡ m → m < t → n ≤ t
fewer n m t same below = omega (arith, same, below)

no_more : (n t : ℕ) → n < t → n ≤ t
no_more n t below = omega (arith, below)

module _ {F T X : Type 0} where
  -- the next future's name stays free
  pub leads_vacant : (cs : List (Choice × Call T (SoloWaker X))) (owner last : Owner) (y z : Solo F T X) (p : Plain T (SoloWaker X))
      (shown : List (Event T (SoloWaker X))) → Leads by_number cs owner y p shown last z → Known by_number owner y p
      → IsVacant (length p.futures) y.cells → IsVacant (length (course wakes cs p).futures) z.cells
  leads_vacant [] owner last y z p shown (stays owner' y' p') known vacant = vacant
  leads_vacant (x ∷ xs) owner last y z p shown (leads c call rest b now e t m v r one more many acts on) known vacant =
      let next : Known by_number now m (does wakes c call p) =
      (leads_alike by_number ((c, call) ∷ []) b now t m p (one ++ []) known
      (leads c call [] b now now t m m p one [] many acts (stays now m (does wakes c call p)))).0 in
      leads_vacant xs now last m z (does wakes c call p) more on next
      (acts_vacant b c t p now m call one known many vacant acts)

module _ {F T X : Type 0} (number : X → ℕ) (outside : ℕ → X) (numbers : (n : ℕ) → number (outside n) ≡ n) (value : T) (future : F) where
  abbrev as_its : Plain T (SoloWaker X) → Plain Output Waker
  as_its p = renamed nothing (numbered number) p

  module _ (s : Machine) (reached : Reached s) (a : Act) (it : IsAct s a) (way : is_on_way (reverse (stack s a.party)) a.first ≡ true)
      (q : Plain Output Waker) (stands : StandsAlike (standing s a.party) q) (r : Plain Output Waker)
      (by : ActsBy s a.party a.first q r a.left.world (start_in s a)) (there : StandsAlike (standing a.left a.party) r)
      (owner : Owner) (y : Solo F T X) (p : Plain T (SoloWaker X)) (is : as_its p ≡ q) (known : Known by_number owner y p)
      (vacant : IsVacant (length p.futures) y.cells) (names : NamesAlike s owner y p)
      (may : MayAct number s a owner y p value outside) where
    abbrev its : Call T (SoloWaker X)
    its = call_by value outside by.made

    may_be : refusal s a.first ≡ None
    may_be = (run-first a.first a.steps s a.left it.made).0

    within_it : a.party < length s.parties
    within_it =
        subst (λ n. n < length s.parties) it.its
        (within (party_of a.first) (length s.parties)
        (passed (nat_lt (party_of a.first) (length s.parties)) NoSuch
        (part_refusal s.world s.parties (stack s (party_of a.first)) a.first) may_be))

    fits_spawn : (call : Call T (SoloWaker X)) → FitsMemory number s a owner y p call
        → FitsSpawn s reached a.party within_it q stands number value outside owner y p is names (refused_in s a) call
    fits_spawn (calls.Spawn mark) fits = fits
    fits_spawn call fits = tt

    knows : (c : Choice) (many : length p.lying ≤ c.tells) (call : Call T (SoloWaker X))
        → Allows by_number owner y p (refused_in s a) (length s.world.ticks) call → KnowsOf number s a owner y p known c many call
    knows c many (calls.PollTick t w) allowed = allowed.1
    knows c many call allowed = tt

    -- the owner wishes it so
    abbrev wish : Wish T (SoloWaker X)
    wish = record {
      call = its;
      refusal = refused_in s a;
      first = start_in s a;
      second = 0;
      name = length s.world.ticks;
    }

    may_it : Allows by_number owner y p (refused_in s a) (length s.world.ticks) its
    may_it =
        allowed s reached a.party within_it q stands number value outside owner y p is names (refused_in s a) a.first by.made by.is may_be
        it.its (fits_spawn its (may by.made by.is).memory)

    it_happens : Happens by_number owner y p wish
    it_happens =
        let has = may by.made by.is in
        happens by_number future owner y p known (next_free owner y p known vacant) names.wakers wish
        (record { allowed = may_it; life = has.life; number = has.has_number })

    pub acted : IsActed number s a owner y p
    acted =
        let e = it_happens in
        let ticks =
        behind s a owner y p e.choice names.ticks names.once its e.shown e.now e.after e.acts e.refused e.named_so
        (of_ticks s a owner y p e.choice names.ticks names.once value outside by.made
        (act_ticks s reached q a by.made stands it by.is)) in
        let d : Choice = by.choice in
        let many = no_more (length p.lying) e.choice.tells e.tells in
        let few : length p.lying ≤ d.tells =
        fewer (length p.lying) (length q.lying) d.tells
        (sym (length_map (lying_as (numbered number)) p.lying) ∙ ap (λ (z : Plain Output Waker). length z.lying) is)
        (tells_at s.world q d a.first by.chosen) in
        let lie = lie_in (standing s a.party) q stands in
        let seen = seen_in (standing a.left a.party) r there in
        let lie_then = lie_in (standing a.left a.party) r there in
        let says_so =
        says number value outside numbers s a owner y p known e.choice many q is stands d few by.made
        (came_all s reached a.party within_it q stands a.first by.made by.is may_be) (act_copies s reached q a by.made stands it by.is)
        (subst (λ z. refused_in s a ≡ said.seen_in q z) (sym by.so) (seen_so s a q r lie seen lie_then)) in
        record {
          call = its;
          choice = e.choice;
          shown = e.shown;
          now = e.now;
          after = e.after;
          acts = e.acts;
          tells = e.tells;
          of =
              record {
                made = subst (λ m. IsMade s a.party a.first m) (sym (call_is number value outside numbers by.made)) by.is;
                refused =
                    λ asks.
                    refusal_same number s a owner y p known e.choice many names.wakers its e.shown e.now e.after e.acts
                    (may by.made by.is).memory says_so (knows e.choice many its may_it) asks e.refused;
              };
          walks = λ x at found kept. (0, e.starts);
          names =
              record {
                wakers = still_known owner y p e.now e.after e.choice wish may_it names.wakers;
                ticks = ticks.0;
                once = ticks.1;
              };
        }

  -- wherever acts and calls have led
  pub each_acts : (limit : ℕ) (kind : MachineKind) (solo_kind : Kind) (parties : ℕ) (acts : List Act)
      (cs : List (Choice × Call T (SoloWaker X))) (first y : Solo F T X) (shown : List (Event T (SoloWaker X)))
      (before : Who → ℕ) (owner : Owner) → AreActs (start limit kind parties) acts → IsNew limit solo_kind first
      → counts solo_kind ≡ not (is_static_kind kind)
      → (led : Leads by_number cs (new_owner before) first (new limit (is_static_kind kind)) shown owner y)
      → AreOfSteps number (start limit kind parties) acts led
      → NamesAlike (left_of (start limit kind parties) acts) owner y (course wakes cs (new limit (is_static_kind kind)))
      → (a : Act) → IsAct (left_of (start limit kind parties) acts) a
      → is_on_way (reverse (stack (left_of (start limit kind parties) acts) a.party)) a.first ≡ true
      → MayAct number (left_of (start limit kind parties) acts) a owner y (course wakes cs (new limit (is_static_kind kind))) value outside
      → IsActed number (left_of (start limit kind parties) acts) a owner y (course wakes cs (new limit (is_static_kind kind)))
  each_acts limit kind solo_kind parties acts cs first y shown before owner they is_new counted led of names a it way may =
      let p = course wakes cs (new limit (is_static_kind kind)) in
      let e = ends_there limit kind parties acts a they it way in
      let known_first = new_known by_number before limit solo_kind (is_static_kind kind) first is_new counted in
      let known =
      (leads_alike by_number cs (new_owner before) owner first y (new limit (is_static_kind kind)) shown known_first led).0 in
      let vacant =
      leads_vacant cs (new_owner before) owner first y (new limit (is_static_kind kind)) shown led known_first
      (λ k above. ap (λ slots. slice_index_or slots k None) is_new.cells) in
      let is =
      steps_same by_number number limit kind solo_kind parties acts cs first y shown before owner they e.go is_new counted led of ∙ e.is in
      acted (left_of (start limit kind parties) acts) e.reached a it way e.plain e.stands e.behind e.by e.there owner y p is known vacant
      names may
