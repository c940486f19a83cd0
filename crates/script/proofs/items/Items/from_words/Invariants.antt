use Rattle.std.proofs.Common.{◌≤◌, length}
use Rattle.script.specs.Item.{IsItem}
use Rattle.text_lines.proofs.Zipping.{ZipsFront}
use Rattle.script.proofs.items.Items.from_words.Given as goal

abbrev pub invariant-loop-word : goal.invariant-loop-word
invariant-loop-word l = ZipsFront IsItem l.items.items l.fn.words l.word-iterator × (length l.items.items ≤ 8)
