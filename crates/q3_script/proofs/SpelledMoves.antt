-- The words of a move against its grammar: what is read was spelled so, and what is spelled so is read.
use Rattle.std.proofs.Common.{◌≡◌, ℕ, ◌^◌, ◌<◌, ◌≤◌, List, [], ◌∷◌, ◌++◌, length, Ok, refl, ap, subst, arith}
use Rattle.std.specs.Prelude.{codes, All, ℤ, map}
use Rattle.std.specs.Fmt.{decimal, signed_decimal}
use Rattle.std.proofs.lemmas.List.Elements.{All-head, All-tail, All-from_recursion}
use Rattle.q3_bits.specs.ResultBind.{◌>>=◌}
use Rattle.q3_bits.proofs.Binds.{bind_ok}
use Rattle.q3_clmsg.specs.declared.moves.Move.{Move as MoveValue}
use Rattle.q3_clmsg.specs.Moves.{IsSignedByte, IsHeldMove}
use Rattle.q3_clmsg.specs.Report.{move_words}
use Rattle.q3_script.specs.declared.event.Event.{Event}
use Rattle.q3_script.specs.declared.event.Event.TheVariants.{Move}
use Rattle.q3_words.specs.Numbers.{last_client, number_word, client_word}
use Rattle.q3_script.specs.Lines.{signed_byte_word, angles_at, steps_at, move_with, move_line}
use Rattle.q3_script.proofs.SpelledLines.{IsLine}
use Rattle.q3_script.proofs.Values.{ok_is}
use Rattle.q3_script.proofs.SignedWords.{SpellsSignedByte, signed_byte_word-spelled, signed_byte_word-again}
use Rattle.q3_words.specs.Laws.{WordLaws}

-- a number below 2^16
abbrev IsAngle : ℕ → Type 0
IsAngle angle = angle < 2 ^ 16

-- three words that spell angles
record AreAngles (pitch yaw roll : List ℕ) (angles : List ℕ) : Type 0 where
  three : length angles ≡ 3
  each : All (λ angle. angle < 2 ^ 16) angles
  whole : pitch ∷ yaw ∷ roll ∷ [] ≡ map decimal angles

-- three words, each read
angles_from : (laws : WordLaws) (pitch yaw roll : List ℕ) (a b d : ℕ) → number_word 0 65535 pitch ≡ Ok a → number_word 0 65535 yaw ≡ Ok b → number_word 0 65535 roll ≡ Ok d → AreAngles pitch yaw roll (a ∷ b ∷ d ∷ [])
angles_from laws pitch yaw roll a b d a_read b_read d_read =
    let a_is = laws.numbers.spelled 0 65535 pitch a (omega arith) a_read in
    let b_is = laws.numbers.spelled 0 65535 yaw b (omega arith) b_read in
    let d_is = laws.numbers.spelled 0 65535 roll d (omega arith) d_read in
    let first : a < 2 ^ 16 = omega arith in
    let second : b < 2 ^ 16 = omega arith in
    let third : d < 2 ^ 16 = omega arith in
    record {
      three = refl;
      each = All-from_recursion IsAngle (a ∷ b ∷ d ∷ []) (first, (second, (third, tt)));
      whole = rw (a_is.2, b_is.2, d_is.2) refl;
    }

-- angles that are read were spelled so
angles_at-spelled : (laws : WordLaws) (pitch yaw roll : List ℕ) (angles : List ℕ) → angles_at pitch yaw roll ≡ Ok angles → AreAngles pitch yaw roll angles
angles_at-spelled laws pitch yaw roll angles e =
    let a = bind_ok (number_word 0 65535 pitch) (λ a. number_word 0 65535 yaw >>= λ b. number_word 0 65535 roll >>= λ d. Ok (a ∷ b ∷ d ∷ [])) angles e in
    let b = bind_ok (number_word 0 65535 yaw) (λ b. number_word 0 65535 roll >>= λ d. Ok (a.0 ∷ b ∷ d ∷ [])) angles a.2 in
    let d = bind_ok (number_word 0 65535 roll) (λ d. Ok (a.0 ∷ b.0 ∷ d ∷ [])) angles b.2 in
    let value : List ℕ = a.0 ∷ b.0 ∷ d.0 ∷ [] in
    subst (λ (x : List ℕ). AreAngles pitch yaw roll x) {x = value} (ok_is value angles d.2) (angles_from laws pitch yaw roll a.0 b.0 d.0 a.1 b.1 d.1)

-- three words that spell steps
record AreSteps (forward right up : List ℕ) (steps : ℤ × ℤ × ℤ) : Type 0 where
  first : SpellsSignedByte forward steps.0
  second : SpellsSignedByte right steps.1
  third : SpellsSignedByte up steps.2

-- steps that are read were spelled so
steps_at-spelled : (laws : WordLaws) (forward right up : List ℕ) (steps : ℤ × ℤ × ℤ) → steps_at forward right up ≡ Ok steps → AreSteps forward right up steps
steps_at-spelled laws forward right up steps e =
    let a = bind_ok (signed_byte_word forward) (λ a. signed_byte_word right >>= λ b. signed_byte_word up >>= λ d. Ok (a, b, d)) steps e in
    let b = bind_ok (signed_byte_word right) (λ b. signed_byte_word up >>= λ d. Ok (a.0, b, d)) steps a.2 in
    let d = bind_ok (signed_byte_word up) (λ d. Ok (a.0, b.0, d)) steps b.2 in
    let value : ℤ × ℤ × ℤ = (a.0, b.0, d.0) in
    subst (λ (x : ℤ × ℤ × ℤ). AreSteps forward right up x) {x = value} (ok_is value steps d.2) (record {
      first = signed_byte_word-spelled laws forward a.0 a.1;
      second = signed_byte_word-spelled laws right b.0 b.1;
      third = signed_byte_word-spelled laws up d.0 d.1;
    })

-- the words of a move, each read
move_from : (laws : WordLaws) (c time pitch yaw roll forward right up buttons weapon : List ℕ) (c' time' : ℕ) (angles' : List ℕ) (steps' : ℤ × ℤ × ℤ) (buttons' weapon' : ℕ)
    → client_word c ≡ Ok c' → number_word 0 4294967295 time ≡ Ok time' → angles_at pitch yaw roll ≡ Ok angles' → steps_at forward right up ≡ Ok steps' → number_word 0 65535 buttons ≡ Ok buttons' → number_word 0 255 weapon ≡ Ok weapon'
    → IsLine (codes "move" ∷ c ∷ time ∷ pitch ∷ yaw ∷ roll ∷ forward ∷ right ∷ up ∷ buttons ∷ weapon ∷ []) (Move c' (move_with time' angles' steps' buttons' weapon'))
move_from laws c time pitch yaw roll forward right up buttons weapon c' time' angles' steps' buttons' weapon' c_read time_read angles_read steps_read buttons_read weapon_read =
    let c_is = laws.numbers.spelled 0 last_client c c' (omega arith) c_read in
    let time_is = laws.numbers.spelled 0 4294967295 time time' (omega arith) time_read in
    let angles_are = angles_at-spelled laws pitch yaw roll angles' angles_read in
    let steps_are = steps_at-spelled laws forward right up steps' steps_read in
    let buttons_is = laws.numbers.spelled 0 65535 buttons buttons' (omega arith) buttons_read in
    let weapon_is = laws.numbers.spelled 0 255 weapon weapon' (omega arith) weapon_read in
    let back : List (List ℕ) = signed_decimal steps'.0 ∷ signed_decimal steps'.1 ∷ signed_decimal steps'.2 ∷ decimal buttons' ∷ decimal weapon' ∷ [] in
    record {
      in_range = (
        omega arith,
        record {
          time = omega arith;
          three = angles_are.three;
          angles = angles_are.each;
          forward = steps_are.first.fits;
          right = steps_are.second.fits;
          up = steps_are.third.fits;
          buttons = omega arith;
          weapon = omega arith;
        },
      );
      whole = rw (c_is.2, time_is.2, steps_are.first.whole, steps_are.second.whole, steps_are.third.whole, buttons_is.2, weapon_is.2)
          (ap (λ (x : List (List ℕ)). codes "move" ∷ decimal c' ∷ decimal time' ∷ x ++ back) angles_are.whole);
    }

-- what is read of the line was spelled so
pub move_line-spelled : (laws : WordLaws) (words : List (List ℕ)) (event : Event) → move_line words ≡ Ok event → IsLine (codes "move" ∷ words) event
unfolding move_line
move_line-spelled laws [] event e = absurd cc
move_line-spelled laws (c ∷ []) event e = absurd cc
move_line-spelled laws (c ∷ time ∷ []) event e = absurd cc
move_line-spelled laws (c ∷ time ∷ pitch ∷ []) event e = absurd cc
move_line-spelled laws (c ∷ time ∷ pitch ∷ yaw ∷ []) event e = absurd cc
move_line-spelled laws (c ∷ time ∷ pitch ∷ yaw ∷ roll ∷ []) event e = absurd cc
move_line-spelled laws (c ∷ time ∷ pitch ∷ yaw ∷ roll ∷ forward ∷ []) event e = absurd cc
move_line-spelled laws (c ∷ time ∷ pitch ∷ yaw ∷ roll ∷ forward ∷ right ∷ []) event e = absurd cc
move_line-spelled laws (c ∷ time ∷ pitch ∷ yaw ∷ roll ∷ forward ∷ right ∷ up ∷ []) event e = absurd cc
move_line-spelled laws (c ∷ time ∷ pitch ∷ yaw ∷ roll ∷ forward ∷ right ∷ up ∷ buttons ∷ []) event e = absurd cc
move_line-spelled laws (c ∷ time ∷ pitch ∷ yaw ∷ roll ∷ forward ∷ right ∷ up ∷ buttons ∷ weapon ∷ []) event e =
    let c' = bind_ok (client_word c) (λ c'. number_word 0 4294967295 time >>= λ time'. angles_at pitch yaw roll >>= λ angles'. steps_at forward right up >>= λ steps'. number_word 0 65535 buttons >>= λ buttons'. number_word 0 255 weapon >>= λ weapon'. Ok (Move c' (move_with time' angles' steps' buttons' weapon'))) event e in
    let time' = bind_ok (number_word 0 4294967295 time) (λ time'. angles_at pitch yaw roll >>= λ angles'. steps_at forward right up >>= λ steps'. number_word 0 65535 buttons >>= λ buttons'. number_word 0 255 weapon >>= λ weapon'. Ok (Move c'.0 (move_with time' angles' steps' buttons' weapon'))) event c'.2 in
    let angles' = bind_ok (angles_at pitch yaw roll) (λ angles'. steps_at forward right up >>= λ steps'. number_word 0 65535 buttons >>= λ buttons'. number_word 0 255 weapon >>= λ weapon'. Ok (Move c'.0 (move_with time'.0 angles' steps' buttons' weapon'))) event time'.2 in
    let steps' = bind_ok (steps_at forward right up) (λ steps'. number_word 0 65535 buttons >>= λ buttons'. number_word 0 255 weapon >>= λ weapon'. Ok (Move c'.0 (move_with time'.0 angles'.0 steps' buttons' weapon'))) event angles'.2 in
    let buttons' = bind_ok (number_word 0 65535 buttons) (λ buttons'. number_word 0 255 weapon >>= λ weapon'. Ok (Move c'.0 (move_with time'.0 angles'.0 steps'.0 buttons' weapon'))) event steps'.2 in
    let weapon' = bind_ok (number_word 0 255 weapon) (λ weapon'. Ok (Move c'.0 (move_with time'.0 angles'.0 steps'.0 buttons'.0 weapon'))) event buttons'.2 in
    let value : Event = Move c'.0 (move_with time'.0 angles'.0 steps'.0 buttons'.0 weapon'.0) in
    subst (λ (x : Event). IsLine (codes "move" ∷ c ∷ time ∷ pitch ∷ yaw ∷ roll ∷ forward ∷ right ∷ up ∷ buttons ∷ weapon ∷ []) x) {x = value} (ok_is value event weapon'.2)
    (move_from laws c time pitch yaw roll forward right up buttons weapon c'.0 time'.0 angles'.0 steps'.0 buttons'.0 weapon'.0 c'.1 time'.1 angles'.1 steps'.1 buttons'.1 weapon'.1)
move_line-spelled laws (c ∷ time ∷ pitch ∷ yaw ∷ roll ∷ forward ∷ right ∷ up ∷ buttons ∷ weapon ∷ other ∷ others) event e = absurd cc

-- angles that are spelled are read
angles_at-again : (laws : WordLaws) (a b d : ℕ) → All (λ angle. angle < 2 ^ 16) (a ∷ b ∷ d ∷ []) → angles_at (decimal a) (decimal b) (decimal d) ≡ Ok (a ∷ b ∷ d ∷ [])
angles_at-again laws a b d each =
    let first = All-head IsAngle a (b ∷ d ∷ []) each in
    let others = All-tail IsAngle a (b ∷ d ∷ []) each in
    let second = All-head IsAngle b (d ∷ []) others in
    let third = All-head IsAngle d [] (All-tail IsAngle b (d ∷ []) others) in
    rw (
      laws.numbers.read 0 65535 a (omega arith) (omega arith) (omega arith),
      laws.numbers.read 0 65535 b (omega arith) (omega arith) (omega arith),
      laws.numbers.read 0 65535 d (omega arith) (omega arith) (omega arith),
    ) refl

-- steps that are spelled are read
steps_at-again : (laws : WordLaws) (forward right up : ℤ) → IsSignedByte forward → IsSignedByte right → IsSignedByte up → steps_at (signed_decimal forward) (signed_decimal right) (signed_decimal up) ≡ Ok (forward, right, up)
steps_at-again laws forward right up first second third = rw (signed_byte_word-again laws forward first, signed_byte_word-again laws right second, signed_byte_word-again laws up third) refl

-- a move of three angles that is spelled is read
again_from : (laws : WordLaws) (c time a b d : ℕ) (forward right up : ℤ) (buttons weapon : ℕ) → c ≤ last_client → IsHeldMove (move_with time (a ∷ b ∷ d ∷ []) (forward, right, up) buttons weapon)
    → move_line (decimal c ∷ decimal time ∷ decimal a ∷ decimal b ∷ decimal d ∷ signed_decimal forward ∷ signed_decimal right ∷ signed_decimal up ∷ decimal buttons ∷ decimal weapon ∷ []) ≡ Ok (Move c (move_with time (a ∷ b ∷ d ∷ []) (forward, right, up) buttons weapon))
unfolding move_line
again_from laws c time a b d forward right up buttons weapon first held =
    let time_fits : time < 2 ^ 32 = held.time in
    let buttons_fit : buttons < 2 ^ 16 = held.buttons in
    let weapon_fits : weapon < 2 ^ 8 = held.weapon in
    rw (
      laws.numbers.read 0 last_client c (omega arith) (omega arith) (omega arith),
      laws.numbers.read 0 4294967295 time (omega arith) (omega arith) (omega arith),
      angles_at-again laws a b d held.angles,
      steps_at-again laws forward right up held.forward held.right held.up,
      laws.numbers.read 0 65535 buttons (omega arith) (omega arith) (omega arith),
      laws.numbers.read 0 255 weapon (omega arith) (omega arith) (omega arith),
    ) refl

-- and so is every move
again_with : (laws : WordLaws) (c time : ℕ) (angles : List ℕ) (steps : ℤ × ℤ × ℤ) (buttons weapon : ℕ) → c ≤ last_client → IsHeldMove (move_with time angles steps buttons weapon)
    → move_line (decimal c ∷ move_words (move_with time angles steps buttons weapon)) ≡ Ok (Move c (move_with time angles steps buttons weapon))
again_with laws c time [] steps buttons weapon first held = let three = held.three in absurd cc
again_with laws c time (a ∷ []) steps buttons weapon first held = let three = held.three in absurd cc
again_with laws c time (a ∷ b ∷ []) steps buttons weapon first held = let three = held.three in absurd cc
again_with laws c time (a ∷ b ∷ d ∷ []) steps buttons weapon first held = again_from laws c time a b d steps.0 steps.1 steps.2 buttons weapon first held
again_with laws c time (a ∷ b ∷ d ∷ other ∷ others) steps buttons weapon first held = let three = held.three in absurd (omega arith)

-- what is spelled so is read
pub move_line-again : (laws : WordLaws) (c : ℕ) (one : MoveValue) → c ≤ last_client → IsHeldMove one → move_line (decimal c ∷ move_words one) ≡ Ok (Move c one)
move_line-again laws c one first held = again_with laws c one.time one.angles (one.forward, one.right, one.up) one.buttons one.weapon first held
