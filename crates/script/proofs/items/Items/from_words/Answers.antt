use Rattle.std.proofs.Common.{◌≡◌, ◌≤◌, [], ◌∷◌, ◌++◌, length, ap, arith}
use Rattle.std.proofs.lemmas.Grind.{common_steps}
use Rattle.std.proofs.lemmas.List.{length_push}
use Rattle.script.specs.Item.{IsItem}
use Rattle.text_lines.proofs.Zipping.{length-AllZip, ZipsFront-push, ZipsFront-all, ZipsFront-more, ZipsFront-stuck}
use Rattle.script.proofs.items.Items.from_words.Goals as goal

pub returns-in_default-clause-none : goal.returns-in_default-clause-none
returns-in_default-clause-none c = λ others are.
    ZipsFront-stuck IsItem c.loop-word.items.items c.args.words c.loop-word.word-iterator c.next.new.self
    c.in-Some.word.now c.loop-word.invariant.0 c.in-Some.ensures.steps c.in_default.ensures.none others are.each

pub returns-then-len-eq8-clause-none : goal.returns-then-len-eq8-clause-none
returns-then-len-eq8-clause-none c = λ others are.
    let more = ZipsFront-more IsItem c.loop-word.items.items c.args.words c.loop-word.word-iterator c.next.new.self
    c.in-Some.word.now c.loop-word.invariant.0 c.in-Some.ensures.steps in
    let same = length-AllZip IsItem others c.args.words are.each in
    let full : 8 ≤ length c.loop-word.items.items = grind (arith, common_steps) in
    omega (arith, are.few)

pub loop-word-preserved : goal.loop-word-preserved
loop-word-preserved c =
    let items = c.loop-word.items.items in
    let pushed : c.push.new.self.items ≡ items ++ c.in-Some-from_word.item ∷ [] = grind (arith, common_steps) in
    let room : length c.push.new.self.items ≤ 8 = omega (arith, ap length pushed, length_push items c.in-Some-from_word.item) in (
      rw pushed (ZipsFront-push IsItem items c.args.words c.loop-word.word-iterator c.next.new.self
          c.in-Some-from_word.item c.in-Some.word.now c.loop-word.invariant.0 c.in-Some.ensures.steps
          c.in-Some-from_word.ensures.found),
      room,
    )

pub returns-then-is_empty-clause-none : goal.returns-then-is_empty-clause-none
returns-then-is_empty-clause-none c = λ others are.
    let each = ZipsFront-all IsItem c.loop-word.items.items c.args.words c.loop-word.word-iterator
    c.loop-word.invariant.0 c.in-None.ensures.steps.0 in
    let ours = length-AllZip IsItem c.loop-word.items.items c.args.words each in
    let same = length-AllZip IsItem others c.args.words are.each in
    let none : length c.loop-word.items.items ≡ 0 = grind (arith, common_steps) in
    omega (arith, are.some)
