-- No text is two scripts.
use Rattle.std.proofs.Common.{◌≡◌, ℕ, Bool, true, false, codes, Option, Some, None, List, [], ◌∷◌, ◌⊎◌, inl, inr, refl, sym, ap, ◌∙◌, arith}
use Rattle.std.specs.List.{AllZip}
use Rattle.text_lines.specs.Number.{IsNumber}
use Rattle.text_lines.proofs.One.{IsNumber-one, AllZip-one}
use Rattle.script.specs.Item.{IsItem, AreItems}
use Rattle.script.specs.Plain.{IsTwice, IsSpelled, spawn_word}
use Rattle.script.specs.Refusal.{IsRefusing}
use Rattle.script.specs.Party.{IsParty}
use Rattle.script.specs.Command.{SpellsAs, SpellsRequest, Spells}
use Rattle.script.specs.declared.command.Request.{Request}
use Rattle.executor_parts.specs.declared.mark.Mark.{Mark}
use Rattle.executor_parts.specs.declared.mark.Mark.TheVariants as mark
use Rattle.script.specs.declared.plain.Plain.{Plain}
use Rattle.script.specs.declared.plain.Plain.TheVariants as plain
use Rattle.script.specs.declared.refusal.Refusal.{Refusal}
use Rattle.script.specs.declared.refusal.Refusal.TheVariants.{Nothing, Each, Only}
use Rattle.text_lines.specs.Lines.{lines_of, words_of}
use Rattle.script.specs.Script.{kind_words, IsCommand, Says, IsScript}
use Rattle.script.specs.declared.item.Item.{Item}
use Rattle.script.specs.declared.item.Item.TheVariants.{Pend, WakeSelf, Keep, Ready, Twice, Stop, Nest}
use Rattle.script.specs.declared.command.Command.{Command}
use Rattle.script.specs.declared.command.Command.TheVariants.{Whole, Begin, Go, Finish}

IsItem-one : (item other : Item) (word : List ℕ) → IsItem item word → IsItem other word → item ≡ other
IsItem-one Pend Pend word p q = refl
IsItem-one WakeSelf WakeSelf word p q = refl
IsItem-one Keep Keep word p q = refl
IsItem-one (Ready m) (Ready n) word p q =
    let digits : p.0 ≡ q.0 = cc in
    ap Ready (IsNumber-one p.0 q.0 m n digits p.2 q.2)
IsItem-one (Twice name) (Twice other) word p q = cc
IsItem-one (Stop name) (Stop other) word p q = cc
IsItem-one Nest Nest word p q = refl
IsItem-one item other word p q = grind arith

AreItems-one : (items others : List Item) (words more : List (List ℕ)) → words ≡ more → AreItems items words →
    AreItems others more → items ≡ others
AreItems-one items others words more same p q = AllZip-one IsItem IsItem-one items others more (rw (← same) p.each) q.each

IsTwice-one : (twice other : Option (List ℕ)) (words more : List (List ℕ)) → words ≡ more → IsTwice twice words →
    IsTwice other more → twice ≡ other
IsTwice-one None None words more same p q = refl
IsTwice-one (Some held) (Some held') words more same p q =
    let word : p.0 ≡ q.0 = cc in
    let items : Twice held ≡ Twice held' = IsItem-one (Twice held) (Twice held') p.0 p.2 (rw word q.2) in
    cc
IsTwice-one None (Some held) words more same p q = let e = q.1 in cc
IsTwice-one (Some held) None words more same p q = let e = p.1 in cc

spawn_word-one : (m n : Mark) → spawn_word m ≡ spawn_word n → m ≡ n
spawn_word-one mark.Plain mark.Plain e = refl
spawn_word-one mark.Urgent mark.Urgent e = refl
spawn_word-one mark.Plain mark.Urgent e = grind arith
spawn_word-one mark.Urgent mark.Plain e = grind arith

IsSpelled-one : (plain other : Plain) (words : List (List ℕ)) → IsSpelled plain words → IsSpelled other words → plain ≡ other
IsSpelled-one (plain.Spawn m name items) (plain.Spawn m' name' items') words p q =
    let first : spawn_word m ≡ spawn_word m' = cc in
    let marks : m ≡ m' = spawn_word-one m m' first in
    let names : name ≡ name' = cc in
    let rest : p.0 ≡ q.0 = cc in
    let same : items ≡ items' = AreItems-one items items' p.0 q.0 rest p.3 q.3 in
    cc
IsSpelled-one plain.Try plain.Try words p q = refl
IsSpelled-one plain.Empty plain.Empty words p q = refl
IsSpelled-one (plain.Wake name) (plain.Wake name') words p q = cc
IsSpelled-one (plain.Unkeep name) (plain.Unkeep name') words p q = cc
IsSpelled-one (plain.Poll name) (plain.Poll name') words p q = cc
IsSpelled-one (plain.Cancel name) (plain.Cancel name') words p q = cc
IsSpelled-one (plain.Detach name) (plain.Detach name') words p q = cc
IsSpelled-one (plain.Drop name) (plain.Drop name') words p q = cc
IsSpelled-one (plain.Tick name) (plain.Tick name') words p q = cc
IsSpelled-one (plain.PollTick name) (plain.PollTick name') words p q = cc
IsSpelled-one (plain.DropTick name) (plain.DropTick name') words p q = cc
IsSpelled-one (plain.Run name twice) (plain.Run name' twice') words p q =
    let names : name ≡ name' = cc in
    let rest : p.0 ≡ q.0 = cc in
    let same : twice ≡ twice' = IsTwice-one twice twice' p.0 q.0 rest p.3 q.3 in
    cc
IsSpelled-one (plain.PollRun name) (plain.PollRun name') words p q = cc
IsSpelled-one (plain.DropRun name) (plain.DropRun name') words p q = cc
IsSpelled-one plain.Leak plain.Leak words p q = refl
IsSpelled-one plain.End plain.End words p q = refl
IsSpelled-one plain other words p q = grind arith

-- no command that makes a call by itself begins with a word that refuses
IsSpelled-refusing : (refusal : Refusal) (plain : Plain) (word : List ℕ) (words rest : List (List ℕ)) →
    words ≡ word ∷ rest → IsRefusing refusal word → ¬ (IsSpelled plain words)
IsSpelled-refusing Nothing plain word words rest e refusing is = refusing
IsSpelled-refusing Each plain word words rest e refusing is = grind arith
IsSpelled-refusing (Only number) plain word words rest e refusing is = let first = refusing.1 in grind arith

-- nor with these words
IsSpelled-begin : (plain : Plain) (words rest : List (List ℕ)) → words ≡ codes "begin" ∷ rest → ¬ (IsSpelled plain words)
IsSpelled-begin plain words rest e is = grind arith

IsSpelled-go : (plain : Plain) (words rest : List (List ℕ)) → words ≡ codes "go" ∷ rest → ¬ (IsSpelled plain words)
IsSpelled-go plain words rest e is = grind arith

IsSpelled-finish : (plain : Plain) (words rest : List (List ℕ)) → words ≡ codes "finish" ∷ rest → ¬ (IsSpelled plain words)
IsSpelled-finish plain words rest e is = grind arith

-- a word refuses one thing
IsRefusing-one : (refusal other : Refusal) (word : List ℕ) → IsRefusing refusal word → IsRefusing other word → refusal ≡ other
IsRefusing-one Each Each word p q = refl
IsRefusing-one (Only m) (Only n) word p q =
    let digits : p.0 ≡ q.0 = cc in
    ap Only (IsNumber-one p.0 q.0 m n digits p.2 q.2)
IsRefusing-one Nothing other word p q = absurd p
IsRefusing-one refusal Nothing word p q = absurd q
IsRefusing-one Each (Only n) word p q = let e = q.1 in grind arith
IsRefusing-one (Only m) Each word p q = let e = p.1 in grind arith

IsRefusing-not : (refusal : Refusal) (word other : List ℕ) → IsRefusing refusal word → word ≡ other →
    (other ≡ codes "begin") ⊎ ((other ≡ codes "go") ⊎ (other ≡ codes "finish")) → ⊥
IsRefusing-not Nothing word other refusing same is = refusing
IsRefusing-not Each word other refusing same is = grind arith
IsRefusing-not (Only number) word other refusing same is = let e = refusing.1 in grind arith

SpellsAs-begin : (refusal : Refusal) (plain : Plain) (words rest : List (List ℕ)) → words ≡ codes "begin" ∷ rest →
    ¬ (SpellsAs refusal plain words)
SpellsAs-begin Nothing plain words rest e is = IsSpelled-begin plain words rest e is
SpellsAs-begin Each plain words rest e is =
    let parts = is.2 in
    let first : is.0 ≡ codes "begin" = cc in
    IsRefusing-not Each is.0 (codes "begin") is.3 first (inl refl)
SpellsAs-begin (Only number) plain words rest e is =
    let parts = is.2 in
    let first : is.0 ≡ codes "begin" = cc in
    IsRefusing-not (Only number) is.0 (codes "begin") is.3 first (inl refl)

SpellsAs-go : (refusal : Refusal) (plain : Plain) (words rest : List (List ℕ)) → words ≡ codes "go" ∷ rest →
    ¬ (SpellsAs refusal plain words)
SpellsAs-go Nothing plain words rest e is = IsSpelled-go plain words rest e is
SpellsAs-go Each plain words rest e is =
    let parts = is.2 in
    let first : is.0 ≡ codes "go" = cc in
    IsRefusing-not Each is.0 (codes "go") is.3 first (inr (inl refl))
SpellsAs-go (Only number) plain words rest e is =
    let parts = is.2 in
    let first : is.0 ≡ codes "go" = cc in
    IsRefusing-not (Only number) is.0 (codes "go") is.3 first (inr (inl refl))

SpellsAs-finish : (refusal : Refusal) (plain : Plain) (words rest : List (List ℕ)) → words ≡ codes "finish" ∷ rest →
    ¬ (SpellsAs refusal plain words)
SpellsAs-finish Nothing plain words rest e is = IsSpelled-finish plain words rest e is
SpellsAs-finish Each plain words rest e is =
    let parts = is.2 in
    let first : is.0 ≡ codes "finish" = cc in
    IsRefusing-not Each is.0 (codes "finish") is.3 first (inr (inr refl))
SpellsAs-finish (Only number) plain words rest e is =
    let parts = is.2 in
    let first : is.0 ≡ codes "finish" = cc in
    IsRefusing-not (Only number) is.0 (codes "finish") is.3 first (inr (inr refl))

-- words behind a word that refuses, by what it refuses
pub record SpellsBehind (refusal : Refusal) (plain : Plain) (words : List (List ℕ)) : Type 0 where
  pub word : List ℕ
  pub rest : List (List ℕ)
  pub parts : words ≡ word ∷ rest
  pub refusing : IsRefusing refusal word
  pub spelled : IsSpelled plain rest

SpellsBehind-one : (refusal other : Refusal) (plain plain' : Plain) (words : List (List ℕ)) →
    SpellsBehind refusal plain words → SpellsBehind other plain' words → (refusal ≡ other) × (plain ≡ plain')
SpellsBehind-one refusal other plain plain' words p q =
    let same : p.word ≡ q.word = let e = p.parts in let e' = q.parts in cc in
    let rest : p.rest ≡ q.rest = let e = p.parts in let e' = q.parts in cc in (
      IsRefusing-one refusal other p.word p.refusing (rw same q.refusing),
      IsSpelled-one plain plain' p.rest p.spelled (rw rest q.spelled),
    )

-- either no request is refused, or the words stand behind one that refuses
SpellsAs-cases : (refusal : Refusal) (plain : Plain) (words : List (List ℕ)) → SpellsAs refusal plain words →
    ((refusal ≡ Nothing) × IsSpelled plain words) ⊎ SpellsBehind refusal plain words
SpellsAs-cases Nothing plain words is = inl (refl, is)
SpellsAs-cases Each plain words is =
    inr (record { word = is.0; rest = is.1; parts = is.2; refusing = is.3; spelled = is.4 })
SpellsAs-cases (Only number) plain words is =
    inr (record { word = is.0; rest = is.1; parts = is.2; refusing = is.3; spelled = is.4 })

SpellsAs-one : (refusal other : Refusal) (plain plain' : Plain) (words : List (List ℕ)) →
    SpellsAs refusal plain words → SpellsAs other plain' words → (refusal ≡ other) × (plain ≡ plain')
SpellsAs-one refusal other plain plain' words p q =
    elim (SpellsAs-cases refusal plain words p) [
      | inl none ↦ elim (SpellsAs-cases other plain' words q) [
        | inl none' ↦ (none.0 ∙ sym none'.0, IsSpelled-one plain plain' words none.1 none'.1)
        | inr behind ↦ absurd (IsSpelled-refusing other plain behind.word words behind.rest behind.parts behind.refusing none.1)
      ]
      | inr behind ↦ elim (SpellsAs-cases other plain' words q) [
        | inl none ↦ absurd (IsSpelled-refusing refusal plain' behind.word words behind.rest behind.parts behind.refusing none.1)
        | inr behind' ↦ SpellsBehind-one refusal other plain plain' words behind behind'
      ]
    ]

SpellsRequest-one : (request other : Request) (words : List (List ℕ)) → SpellsRequest request words →
    SpellsRequest other words → request ≡ other
SpellsRequest-one request other words p q =
    let both = SpellsAs-one request.refusal other.refusal request.plain other.plain words p q in
    let refusal : request.refusal ≡ other.refusal = both.0 in
    let same : request.plain ≡ other.plain = both.1 in
    let of : Refusal → Plain → Request = λ b c. record { refusal = b; plain = c } in
    ap (λ b. of b request.plain) refusal ∙ ap (λ c. of other.refusal c) same

IsParty-one : (word other : List ℕ) (m n : ℕ) → word ≡ other → IsParty word m → IsParty other n → m ≡ n
IsParty-one word other m n same p q = IsNumber-one word other m n same p.number q.number

Spells-one : (command other : Command) (words : List (List ℕ)) → Spells command words → Spells other words → command ≡ other
Spells-one (Whole request) (Whole other) words p q = ap Whole (SpellsRequest-one request other words p q)
Spells-one (Begin party request) (Begin party' other) words p q =
    let numbers : p.0 ≡ q.0 = cc in
    let rests : p.1 ≡ q.1 = cc in
    let parties : party ≡ party' = IsParty-one p.0 q.0 party party' numbers p.3 q.3 in
    let requests : request ≡ other = SpellsRequest-one request other p.1 p.4 (rw rests q.4) in
    cc
Spells-one (Go party) (Go other) words p q =
    let numbers : p.0 ≡ q.0 = cc in
    ap Go (IsParty-one p.0 q.0 party other numbers p.2 q.2)
Spells-one (Finish party) (Finish other) words p q =
    let numbers : p.0 ≡ q.0 = cc in
    ap Finish (IsParty-one p.0 q.0 party other numbers p.2 q.2)
Spells-one (Whole request) (Begin party other) words p q = absurd (SpellsAs-begin request.refusal request.plain words _ q.2 p)
Spells-one (Whole request) (Go party) words p q = absurd (SpellsAs-go request.refusal request.plain words _ q.1 p)
Spells-one (Whole request) (Finish party) words p q = absurd (SpellsAs-finish request.refusal request.plain words _ q.1 p)
Spells-one (Begin party request) (Whole other) words p q = absurd (SpellsAs-begin other.refusal other.plain words _ p.2 q)
Spells-one (Go party) (Whole other) words p q = absurd (SpellsAs-go other.refusal other.plain words _ p.1 q)
Spells-one (Finish party) (Whole other) words p q = absurd (SpellsAs-finish other.refusal other.plain words _ p.1 q)
Spells-one (Begin party request) (Go other) words p q = grind arith
Spells-one (Begin party request) (Finish other) words p q = grind arith
Spells-one (Go party) (Begin other request) words p q = grind arith
Spells-one (Go party) (Finish other) words p q = grind arith
Spells-one (Finish party) (Begin other request) words p q = grind arith
Spells-one (Finish party) (Go other) words p q = grind arith

kinds-one : (is_static other : Bool) (words more : List (List ℕ)) → words ≡ more → words ≡ kind_words is_static →
    more ≡ kind_words other → is_static ≡ other
kinds-one true true words more same p q = refl
kinds-one true false words more same p q = cc
kinds-one false true words more same p q = cc
kinds-one false false words more same p q = refl

Says-one : (limit other : ℕ) (is_static is_other : Bool) (commands others : List Command) (lines : List (List ℕ)) →
    Says limit is_static commands lines → Says other is_other others lines →
    (limit ≡ other) × (is_static ≡ is_other) × (commands ≡ others)
Says-one limit other is_static is_other commands others [] p q = absurd p
Says-one limit other is_static is_other commands others (first ∷ later) p q =
    let digits : p.0.0 ≡ q.0.0 = cc in
    let kinds : kind_words is_static ≡ kind_words is_other = cc in (
      IsNumber-one p.0.0 q.0.0 limit other digits p.0.2 q.0.2,
      kinds-one is_static is_other (kind_words is_static) (kind_words is_other) kinds refl refl,
      AllZip-one IsCommand (λ x y line. Spells-one x y (words_of line)) commands others later p.1 q.1,
    )

-- a text is a script of at most one limit, one kind and one list of commands
pub IsScript-one : (text : List ℕ) (limit other : ℕ) (is_static is_other : Bool) (commands others : List Command) →
    IsScript text limit is_static commands → IsScript text other is_other others →
    (limit ≡ other) × (is_static ≡ is_other) × (commands ≡ others)
IsScript-one text limit other is_static is_other commands others p q =
    Says-one limit other is_static is_other commands others (lines_of text) p.says q.says
