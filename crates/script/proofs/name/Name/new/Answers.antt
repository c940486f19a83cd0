use Rattle.std.proofs.Common.{◌≡◌, ℕ, List, ◌++◌, length, take, drop, replicate, sym, ap, arith, rules}
use Rattle.std.proofs.Math.Seq.{take-append_seam}
use Rattle.std.proofs.lemmas.Grind.{common_steps}
use Rattle.std.proofs.lemmas.List.{drop-replicate}
use Rattle.script.specs.Name.{IsName}
use Rattle.script.specs.Padded.{IsPadded}
use Rattle.script.proofs.name.Name.new.Goals as goal

-- a name in front of as many zeros as it leaves of eight
padded : (word : List ℕ) → IsName word → IsPadded record { letters = word ++ drop (length word) (replicate 8 0); len = length word }
padded word name =
    let front : take (length word) (word ++ drop (length word) (replicate 8 0)) ≡ word = take-append_seam word _ in
    record {
      name = rw front name;
      counted = ap length front;
      padded = rw front (ap (λ zeros. word ++ zeros) (sym (drop-replicate (length word) 8 0)));
    }

pub invariant_of-result : goal.invariant_of-result
invariant_of-result c =
    let name : IsName c.args.word.now = grind (arith, common_steps) in
    let same : c.copy_from_slice.new.self ≡ c.args.word.now = search rules in
    rw same (padded c.args.word.now name)
