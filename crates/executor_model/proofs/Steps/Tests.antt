-- For calls_do_what_they_say and own_queues_agree.
-- What two tests together tell of each.
use Rattle.std.proofs.Common.{◌≡◌, Bool, true, false, ◌&&◌, ◌||◌, refl}

pub or-false : (a : Bool) → a ≡ false → (a || false) ≡ false
or-false true e = absurd (cc)
or-false false e = refl

pub left-false : (a b : Bool) → (a || b) ≡ false → a ≡ false
left-false true b e = absurd (cc)
left-false false b e = refl

pub right-false : (a b : Bool) → (a || b) ≡ false → b ≡ false
right-false true b e = absurd (cc)
right-false false b e = e

pub or-left : (a b : Bool) → a ≡ true → (a || b) ≡ true
or-left true b e = refl
or-left false b e = absurd (cc)

pub or-right : (a b : Bool) → b ≡ true → (a || b) ≡ true
or-right true b e = refl
or-right false b e = e

pub and-right : (a b : Bool) → (a && b) ≡ true → b ≡ true
and-right true b e = e
and-right false b e = absurd (cc)
