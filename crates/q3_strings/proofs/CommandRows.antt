-- One command more after its operation: what is read was spelled so, and what is spelled so is read.
use Rattle.std.proofs.Common.{◌≡◌, ◌<◌, ◌≤◌, Bool, true, nat_lt, ltb, List, [], ◌∷◌, ◌++◌, length, Ok, refl, sym, ap, subst, arith, inl, inr}
use Rattle.std.proofs.lemmas.Bool.{cases_Bool}
use Rattle.std.proofs.lemmas.Bool.Decides.{nat_tests}
use Rattle.std.proofs.lemmas.List.{length-append}
use Rattle.q3_bits.specs.ResultBind.{fault_as}
use Rattle.q3_bits.proofs.Binds.{bind_ok, map_err_ok}
use Rattle.q3_bits.specs.Words.{IsCode}
use Rattle.q3_text.specs.declared.text.Command.{Command}
use Rattle.q3_strings.specs.Reading.{command_at}
use Rattle.q3_strings.specs.Spelling.{SpellsCommand}
use Rattle.q3_strings.specs.Operations.{string_error, commands_at}
use Rattle.q3_strings.specs.Laws.{IsCommand, CommandReadIsSpelled, CommandSpelledIsRead}

-- a command more that was read
pub record ReadMore (words : List (List Bool)) (commands : List Command) (bits : List Bool) (found : List Command × List Bool) : Type 0 where
  pub few : length commands < 64
  pub command : Command
  pub all : found.0 ≡ commands ++ command ∷ []
  pub is : IsCommand command
  pub text : List Bool
  pub spells : SpellsCommand words command text
  pub parts : bits ≡ text ++ found.1

pub more_was_spelled : CommandReadIsSpelled → (words : List (List Bool)) → IsCode words → (commands : List Command) (bits : List Bool) (found : List Command × List Bool)
    → commands_at words commands bits ≡ Ok found → ReadMore words commands bits found
unfolding commands_at
more_was_spelled law words code commands bits found e =
    elim (cases_Bool (ltb (length commands) 64)) [
      | inr full ↦ absurd (let wrong = rw full at e in cc)
      | inl room ↦
          let read = bind_ok (fault_as string_error (command_at words bits)) (λ command. Ok (commands ++ command.0 ∷ [], command.1)) found (rw room at e) in
          let made = read.2 in
          let same : (commands ++ read.0.0 ∷ [], read.0.1) ≡ found = cc in
          let was = law words read.0.0 bits read.0.1 code (map_err_ok string_error (command_at words bits) read.0 read.1) in
          let few : length commands < 64 = grind (arith, nat_tests) in
          subst (ReadMore words commands bits) {x = (commands ++ read.0.0 ∷ [], read.0.1)} same (record {
            few = few;
            command = read.0.0;
            all = refl;
            is = was.0;
            text = was.1;
            spells = was.3;
            parts = was.2;
          })
    ]

-- what follows it is no longer
pub more_shorter : CommandReadIsSpelled → (words : List (List Bool)) → IsCode words → (commands : List Command) (bits : List Bool) (more : List Command) (rest : List Bool)
    → Ok (more, rest) ≡ commands_at words commands bits → length rest ≤ length bits
more_shorter law words code commands bits more rest e =
    let read = more_was_spelled law words code commands bits (more, rest) (sym e) in
    omega (arith, ap length read.parts, length-append read.text rest)

pub more_is_read : CommandSpelledIsRead → (words : List (List Bool)) → IsCode words → (commands : List Command) (command : Command) (text rest : List Bool) → length commands < 64
    → SpellsCommand words command text → commands_at words commands (text ++ rest) ≡ Ok (commands ++ command ∷ [], rest)
unfolding commands_at
more_is_read law words code commands command text rest few spells =
    let room : nat_lt (length commands) 64 ≡ true = grind (arith, nat_tests) in
    rw (room, law words command text rest code spells) refl
