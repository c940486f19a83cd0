use Rattle.std.proofs.Common.{◌≡◌, ℕ, ◌<◌, ◌≤◌, Bool, true, List, [], ◌∷◌, length, map, get_or, ap, sym, ◌∙◌, arith, string_bytes}
use Rattle.std.proofs.lemmas.Slice.Eq.{bytes_eq-Decides}
use Rattle.std.specs.Str.{bytes_eq}
use Rattle.commands.proofs.words.read_words.Goals as goal

-- a list of one word, each word seen as its bytes
map_one : {X : Type 0} (f : X → List ℕ) (words : List X) (word : X)
    → 1 ≤ length words → length words < 2 → word ≡ get_or words 0 word → map f words ≡ f word ∷ []
map_one f [] word some few at = absurd (omega arith)
map_one f (first ∷ []) word some few at = ap (λ x. f x ∷ []) (sym at)
map_one f (first ∷ second ∷ words) word some few at = absurd (omega arith)

-- a list of two words
map_two : {X : Type 0} (f : X → List ℕ) (words : List X) (word count : X)
    → 2 ≤ length words → length words < 3 → word ≡ get_or words 0 word → count ≡ get_or words 1 count → map f words ≡ f word ∷ f count ∷ []
map_two f [] word count some few at behind = absurd (omega arith)
map_two f (first ∷ []) word count some few at behind = absurd (omega arith)
map_two f (first ∷ second ∷ []) word count some few at behind = cc
map_two f (first ∷ second ∷ third ∷ words) word count some few at behind = absurd (omega arith)

-- a word that was found equal is the one that is wanted
is_wanted : (test : Bool) (word wanted : List ℕ) → test ≡ bytes_eq word wanted → test ≡ true → word ≡ wanted
is_wanted test word wanted tested is_so = (bytes_eq-Decides word wanted).0 (sym tested ∙ is_so)

pub returns-then-eq-clause-found : goal.returns-then-eq-clause-found
returns-then-eq-clause-found c =
    let one = map_one string_bytes c.args.words.now c.word-item.result c.in-len1.len_at_least c.in-len1.len_below c.word-item.is in
    let wanted = is_wanted c.eq.result c.as_str.result.now _ c.eq.ensures c.if-eq.true in
    one ∙ ap (λ word. word ∷ []) (sym c.as_str.ensures.value ∙ wanted)

pub returns-in-Some-clause-found : goal.returns-in-Some-clause-found
returns-in-Some-clause-found c =
    let two = map_two string_bytes c.args.words.now c.word-item-then-words-lt3.result c.count-item.result
    c.in-len2.len_at_least c.in-len2.len_below c.word-item-then-words-lt3.is c.count-item.is in
    let wanted = is_wanted c.eq-in-len2.result c.as_str-in-len2.result.now _ c.eq-in-len2.ensures c.if-eq-2.true in
    let number = c.in-Some.ensures.found in (
      string_bytes c.count-item.result,
      two ∙ ap (λ word. word ∷ string_bytes c.count-item.result ∷ []) (sym c.as_str-in-len2.ensures.value ∙ wanted),
      rw (← c.as_bytes.ensures.value) number.0,
      number.1,
      number.2,
    )
