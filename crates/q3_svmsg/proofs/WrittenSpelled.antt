-- What is written of a message spells it.
use Rattle.std.proofs.Common.{◌≡◌, ◌⊎◌, ◌+◌, ◌-◌, ◌<◌, ◌==◌, ◌&&◌, ℕ, zero, suc, Bool, true, false, nat_lt, if◌then◌else◌, [], ◌∷◌, ◌++◌, Option, Some, None, IsSome, refl, sym, ap, ◌∙◌, append_assoc, arith, inl, inr}
use Rattle.std.proofs.lemmas.Bool.Decides.{nat_tests}
use Rattle.std.proofs.lemmas.List.{append-nil}
use Rattle.q3_bits.specs.Words.{row_bits}
use Rattle.q3_strings.specs.Commands.{commands_bits}
use Rattle.q3_strings.proofs.FieldRows.{row-empty}
use Rattle.q3_player.specs.Delta.{player_delta}
use Rattle.q3_entity.specs.Lists.{entity_list_bits}
use Rattle.q3_profile.specs.declared.profile.Profile.{Profile}
use Rattle.q3_profile.specs.Profile.{IsCodec}
use Rattle.q3_svmsg.specs.Values.{Base, base_player, base_entities, Context, Told, Nothing, Game, Snap, Skipped, IsNamed, distance_to, number_of_base, HasNumber}
use Rattle.q3_svmsg.specs.Texts.{head_bits, snapshot_bits, section_bits, server_message_bits}
use Rattle.q3_svmsg.specs.Reading.{held_base}
use Rattle.q3_svmsg.specs.Spelling.{SpellsSection}
use Rattle.q3_svmsg.specs.Laws.{IsContext, IsTold, base_in, normal_told, WrittenIsSpelled}
use Rattle.q3_svmsg.proofs.Below.{WasWritten}
use Rattle.q3_svmsg.proofs.Held.{held_is_normal}

-- ---- the section

-- the distance of a base that is named fits a byte, and gives its number back
distance_fits : (against : Option Base) (number base : ℕ) → IsNamed against number base → distance_to number base < 256
distance_fits None number zero named = omega arith
distance_fits None number (suc base) named = absurd (omega (arith, named))
distance_fits (Some held) number zero named = omega arith
distance_fits (Some held) number (suc base) named = omega (arith, named.1, named.2)

distance_back : (against : Option Base) (number base : ℕ) → IsNamed against number base → number_of_base number (distance_to number base) ≡ base
distance_back against number zero named = some (nat_lt 0 number)
  where
    some : (b : Bool) → (if b && false then number - 0 else 0) ≡ 0
    some true = refl
    some false = refl
distance_back None number (suc base) named = absurd (omega (arith, named))
distance_back (Some held) number (suc base) named =
    let below : nat_lt (number - (base + 1)) number ≡ true = grind (arith, nat_tests, named.1) in
    let some : (number - (base + 1) == 0) ≡ false = grind (arith, nat_tests, named.1) in
    let back : number - (number - (base + 1)) ≡ suc base = omega (arith, named.1) in
    rw (below, some) back

-- where there is a base, it is held
may_be : (against : Option Base) (number base : ℕ) → IsNamed against number base → (distance_to number base ≡ 0) ⊎ IsSome against
may_be (Some held) number base named = inr refl
may_be None number base named = inl (ap (distance_to number) named)

section_is_spelled : WasWritten → (profile : Profile) (context : Context) (number : ℕ) (told : Told)
    → IsCodec profile → IsContext profile context → IsTold profile context told → HasNumber number told
    → SpellsSection profile context number (normal_told profile told) (section_bits profile context.baselines (base_in context told) told)
unfolding section_bits snapshot_bits
section_is_spelled below profile context number Nothing codec is_context is has_number = refl
section_is_spelled below profile context number (Game game) codec is_context is has_number = below.game profile game codec is
section_is_spelled below profile context number (Snap base head entities) codec is_context is has_number =
    let words = profile.code in
    let against = held_base context base in
    let from = held_is_normal profile context codec is_context below.no_player base against refl in
    let is_head = is.0 in
    record {
      distance = distance_to head.number base;
      named = sym (distance_back against head.number base is.2) ∙ ap (λ (n : ℕ). number_of_base n (distance_to head.number base)) has_number;
      held = may_be against head.number base is.2;
      head = head_bits words base head;
      player = player_delta words profile.player.kinds (base_player against) head.player;
      list = entity_list_bits words profile.entity context.baselines (base_entities against) entities;
      of_head = record {
        under = has_number;
        time = is_head.time;
        near = distance_fits against head.number base is.2;
        flags = is_head.flags;
        area = is_head.area;
        short = is_head.short;
        text = refl;
      };
      state = (below.normal profile.player.kinds head.player codec.player.kinds is_head.player).0;
      of_player = below.player words profile.player.kinds (base_player against) head.player codec.code codec.player.kinds from.state from.normal is_head.player;
      of_list = below.list words profile.entity context.baselines (base_entities against) entities codec.code codec.entity is_context.baselines from.list from.states from.normal_entities is.1.list is.1.states;
      whole = refl;
    }
section_is_spelled below profile context number (Skipped base) codec is_context is has_number = absurd is

-- ---- the message

pub message_is_spelled : WasWritten → WrittenIsSpelled
unfolding server_message_bits
message_is_spelled below profile context number message codec is_context is =
    let words = profile.code in
    let commands = commands_bits words 5 message.commands in
    let section = section_bits profile context.baselines (base_in context message.section) message.section in
    record {
      ack = is.ack;
      few = is.few;
      section = section;
      operations = commands ++ [] ++ section ++ ([] ++ row_bits words ((8, 8) ∷ []));
      of_section = section_is_spelled below profile context number message.section codec is_context is.section is.number_is;
      of_operations = record {
        text = commands;
        nops = [];
        ending = [] ++ row_bits words ((8, 8) ∷ []);
        of_commands = below.commands words 5 message.commands is.commands;
        of_nops = (0, row-empty words);
        of_ending = ([], (0, row-empty words), refl);
        whole = refl;
      };
      whole = simp (append-nil, append_assoc);
    }
