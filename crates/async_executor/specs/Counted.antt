-- What a run counts.
use Rattle.std.specs.Prelude.{ℕ, ◌+◌, ◌==◌, Bool, cond}
use Rattle.call_steps.specs.declared.saw.Searcher.{Searcher}

pub record Counted : Type 0 where
  -- how many tasks since it last stole at a 64th
  pub counted : ℕ
  -- how many tasks since it last let others go first
  pub taken : ℕ

-- with one task more: at the 64th and at the 200th the count begins anew
abbrev pub one_more : Counted → Counted
one_more c = record {
  counted = cond (c.counted + 1 == 64) 0 (c.counted + 1);
  taken = cond (c.taken + 1 == 200) 0 (c.taken + 1);
}

-- a run that sleeps or not, and has counted so
abbrev pub searcher : Bool → Counted → Searcher
searcher sleeps c = record { sleeps = sleeps; counted = c.counted; taken = c.taken }
