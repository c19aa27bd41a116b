-- What an array tells of its signed values that is handed over by value.
use Rattle.std.proofs.Common.{◌^◌, ◌<◌, List, [], ◌∷◌, ℤ, w16, arith}
use Rattle.std.specs.Prelude.{All}
use Rattle.std.specs.Int.Signed.{mag}
use Rattle.std.proofs.lemmas.Int.{ints}
use Rattle.std.proofs.lemmas.List.Elements.{All-nil, All-cons}
use denote.Array.{each}
use denote.Shadow.{shadow}
use denote.Signed.{SInt}
use mir.Val.{Val, hbits}
use Rattle.q3_player.specs.State.{IsShort}

short_fits : (value : ℤ) → mag value < 2 ^ hbits w16 → IsShort value
short_fits value fits = omega (arith, ints, fits)

-- each has 16 bits
pub all_shorts : (shorts : List ℤ) (values : List Val) → shadow (each ℤ (SInt w16).own_val shorts values) → All IsShort shorts
all_shorts [] values are = All-nil IsShort
all_shorts (short ∷ shorts) [] are = absurd are
all_shorts (short ∷ shorts) (value ∷ values) are = All-cons IsShort short shorts (short_fits short are.0.1) (all_shorts shorts values are.1)
