-- Words that are none of the items, none of the commands, no refusal and no request.
use Rattle.std.proofs.Common.{◌≡◌, ◌≢◌, ℕ, List, ◌∷◌, codes}
use Rattle.script.specs.Item.{IsItem}
use Rattle.script.specs.Plain.{IsSpelled}
use Rattle.script.specs.Refusal.{IsRefusing}
use Rattle.script.specs.Command.{SpellsAs, SpellsRequest}
use Rattle.script.specs.declared.command.Request.{Request}
use Rattle.script.specs.declared.item.Item.{Item}
use Rattle.script.specs.declared.item.Item.TheVariants.{Pend, WakeSelf, Keep, Ready, Twice, Stop, Nest}
use Rattle.script.specs.declared.plain.Plain.{Plain}
use Rattle.script.specs.declared.plain.Plain.TheVariants as plain
use Rattle.executor_parts.specs.declared.mark.Mark.TheVariants as mark
use Rattle.script.specs.declared.refusal.Refusal.{Refusal}
use Rattle.script.specs.declared.refusal.Refusal.TheVariants.{Nothing, Each, Only}

pub no_item : (item : Item) (word : List ℕ) → word ≢ codes "pend" → word ≢ codes "self" → word ≢ codes "keep" →
    word ≢ codes "nest" → ((value : ℕ) → ¬ (IsItem (Ready value) word)) → ((name : List ℕ) → ¬ (IsItem (Twice name) word)) →
    ((name : List ℕ) → ¬ (IsItem (Stop name) word)) → ¬ (IsItem item word)
no_item Pend word pend itself keep nest ready twice stop is = pend is
no_item WakeSelf word pend itself keep nest ready twice stop is = itself is
no_item Keep word pend itself keep nest ready twice stop is = keep is
no_item (Ready value) word pend itself keep nest ready twice stop is = ready value is
no_item (Twice name) word pend itself keep nest ready twice stop is = twice name is
no_item (Stop name) word pend itself keep nest ready twice stop is = stop name is
no_item Nest word pend itself keep nest ready twice stop is = nest is

-- a word that is neither `refuse` nor `refuse@<k>` refuses nothing
pub no_refusal : (refusal : Refusal) (word : List ℕ) → word ≢ codes "refuse" →
    ((number : ℕ) → ¬ (IsRefusing (Only number) word)) → ¬ (IsRefusing refusal word)
no_refusal Nothing word each only is = is
no_refusal Each word each only is = each is
no_refusal (Only number) word each only is = only number is

pub no_plain : (command : Plain) (first : List ℕ) (words : List (List ℕ)) → first ≢ codes "spawn" →
    first ≢ codes "urgent" → first ≢ codes "try" → first ≢ codes "empty" → first ≢ codes "wake" → first ≢ codes "unkeep" →
    first ≢ codes "poll" → first ≢ codes "cancel" → first ≢ codes "detach" → first ≢ codes "drop" →
    first ≢ codes "tick" → first ≢ codes "polltick" → first ≢ codes "droptick" → first ≢ codes "run" →
    first ≢ codes "pollrun" → first ≢ codes "droprun" → first ≢ codes "leak" → first ≢ codes "end" →
    ¬ (IsSpelled command (first ∷ words))
no_plain (plain.Spawn mark.Plain name items) first words not_spawn _ _ _ _ _ _ _ _ _ _ _ _ _ _ _ _ _ is = let e = is.1 in not_spawn cc
no_plain (plain.Spawn mark.Urgent name items) first words _ not_urgent _ _ _ _ _ _ _ _ _ _ _ _ _ _ _ _ is = let e = is.1 in not_urgent cc
no_plain plain.Try first words _ _ not_try _ _ _ _ _ _ _ _ _ _ _ _ _ _ _ is = not_try cc
no_plain plain.Empty first words _ _ _ not_empty _ _ _ _ _ _ _ _ _ _ _ _ _ _ is = not_empty cc
no_plain (plain.Wake name) first words _ _ _ _ not_wake _ _ _ _ _ _ _ _ _ _ _ _ _ is = let e = is.0 in not_wake cc
no_plain (plain.Unkeep name) first words _ _ _ _ _ not_unkeep _ _ _ _ _ _ _ _ _ _ _ _ is = let e = is.0 in not_unkeep cc
no_plain (plain.Poll name) first words _ _ _ _ _ _ not_poll _ _ _ _ _ _ _ _ _ _ _ is = let e = is.0 in not_poll cc
no_plain (plain.Cancel name) first words _ _ _ _ _ _ _ not_cancel _ _ _ _ _ _ _ _ _ _ is = let e = is.0 in not_cancel cc
no_plain (plain.Detach name) first words _ _ _ _ _ _ _ _ not_detach _ _ _ _ _ _ _ _ _ is = let e = is.0 in not_detach cc
no_plain (plain.Drop name) first words _ _ _ _ _ _ _ _ _ not_drop _ _ _ _ _ _ _ _ is = let e = is.0 in not_drop cc
no_plain (plain.Tick name) first words _ _ _ _ _ _ _ _ _ _ not_tick _ _ _ _ _ _ _ is = let e = is.0 in not_tick cc
no_plain (plain.PollTick name) first words _ _ _ _ _ _ _ _ _ _ _ not_polltick _ _ _ _ _ _ is = let e = is.0 in not_polltick cc
no_plain (plain.DropTick name) first words _ _ _ _ _ _ _ _ _ _ _ _ not_droptick _ _ _ _ _ is = let e = is.0 in not_droptick cc
no_plain (plain.Run name twice) first words _ _ _ _ _ _ _ _ _ _ _ _ _ not_run _ _ _ _ is = let e = is.1 in not_run cc
no_plain (plain.PollRun name) first words _ _ _ _ _ _ _ _ _ _ _ _ _ _ not_pollrun _ _ _ is = let e = is.0 in not_pollrun cc
no_plain (plain.DropRun name) first words _ _ _ _ _ _ _ _ _ _ _ _ _ _ _ not_droprun _ _ is = let e = is.0 in not_droprun cc
no_plain plain.Leak first words _ _ _ _ _ _ _ _ _ _ _ _ _ _ _ _ not_leak _ is = not_leak cc
no_plain plain.End first words _ _ _ _ _ _ _ _ _ _ _ _ _ _ _ _ _ not_end is = not_end cc

no_spelling : (refusal : Refusal) (plain : Plain) (first : List ℕ) (rest : List (List ℕ)) →
    ((other : Refusal) → ¬ (IsRefusing other first)) → ¬ (IsSpelled plain (first ∷ rest)) →
    ¬ (SpellsAs refusal plain (first ∷ rest))
no_spelling Nothing plain first rest none unspelled is = unspelled is
no_spelling Each plain first rest none unspelled is =
    let parts = is.2 in
    let same : first ≡ is.0 = cc in
    none Each (rw same is.3)
no_spelling (Only number) plain first rest none unspelled is =
    let parts = is.2 in
    let same : first ≡ is.0 = cc in
    none (Only number) (rw same is.3)

-- words of which the first refuses nothing
pub no_request : (request : Request) (first : List ℕ) (rest : List (List ℕ)) →
    ((refusal : Refusal) → ¬ (IsRefusing refusal first)) → ((command : Plain) → ¬ (IsSpelled command (first ∷ rest))) →
    ¬ (SpellsRequest request (first ∷ rest))
no_request request first rest none unspelled is =
    no_spelling request.refusal request.plain first rest none (unspelled request.plain) is
