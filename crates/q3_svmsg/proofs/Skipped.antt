-- What is read against a base is skipped where that base isn't held.
use Rattle.std.proofs.Common.{◌≡◌, ◌<◌, ℕ, zero, suc, Bool, List, [], ◌++◌, Option, None, refl, sym, ap, subst, ◌∙◌, arith}
use Rattle.std.proofs.lemmas.List.{append-nil}
use Rattle.q3_bits.specs.ResultBind.{left_of}
use Rattle.q3_bits.proofs.Binds.{left_ok}
use Rattle.q3_player.specs.declared.state.PlayerState.{PlayerState}
use Rattle.q3_player.specs.declared.head.SnapHead.{SnapHead}
use Rattle.q3_player.specs.State.{IsState, zero_player}
use Rattle.q3_player.specs.Delta.{player_at}
use Rattle.q3_player.specs.Spelling.{SpellsPlayer}
use Rattle.q3_player.specs.Laws as player
use Rattle.q3_entity.specs.declared.state.EntityState.{EntityState}
use Rattle.q3_entity.specs.Baselines.{Baselines, AreBaselines}
use Rattle.q3_entity.specs.Spelling.{SpellsList, SpellsSkipped}
use Rattle.q3_entity.specs.Laws as entity
use Rattle.q3_profile.specs.declared.profile.Profile.{Profile}
use Rattle.q3_profile.specs.Profile.{IsCodec}
use Rattle.q3_svmsg.specs.Values.{Base, base_player, base_entities, number_of_base, Context, Told, Skipped, Message}
use Rattle.q3_svmsg.specs.Reading.{held_base, server_message_at}
use Rattle.q3_svmsg.specs.Spelling.{SpellsSnapshot, SpellsSkippedSnapshot, SpellsSection, SpellsMessage}
use Rattle.q3_svmsg.specs.Laws.{IsContext, ReadIsSpelled, SpelledIsRead, ReadIsSkipped}
use Rattle.q3_svmsg.proofs.Held.{IsFrom, held_is_normal}
use Rattle.q3_svmsg.proofs.SectionSpelled.{none_named}

-- a text that reads with nothing after it is all that was read
all_read : (text read : List Bool) → text ++ [] ≡ read ++ [] → read ≡ text
all_read text read is = sym (append-nil read) ∙ sym is ∙ append-nil text

-- the text of a player spells some state against any other
player_over : player.SpelledIsRead → player.PlayersEndAlike → player.ReadIsSpelled → (profile : Profile) (from other to : PlayerState) (text : List Bool) → IsCodec profile
    → IsState from → IsState other → IsState to → SpellsPlayer profile.code profile.player.kinds from to text
    → (found : PlayerState) × IsState found × SpellsPlayer profile.code profile.player.kinds other found text
player_over spelled alike read profile from other to text codec is is' to_is s =
    let words = profile.code in
    let kinds = profile.player.kinds in
    let here = spelled words kinds from to text [] codec.code codec.player.kinds is to_is s in
    let there = left_ok (player_at words kinds other (text ++ [])) [] (sym (alike words kinds from other (text ++ []) is is') ∙ ap left_of here) in
    let was = read words kinds other there.0 (text ++ []) [] codec.code codec.player.kinds is' there.1 in
    (there.0, was.0, subst (SpellsPlayer words kinds other there.0) (all_read text was.2 was.3) was.4)

-- the text of a list spells one that is skipped
list_over : entity.ListSpelledIsRead → entity.ReadIsSkipped → entity.SkippedIsSpelled → (profile : Profile) (baselines : Baselines) (against : Option Base) (entities : List EntityState)
    (text : List Bool) → IsCodec profile → AreBaselines profile.entity baselines → IsFrom profile against → SpellsList profile.code profile.entity baselines (base_entities against) entities text
    → SpellsSkipped profile.code profile.entity text
list_over spelled skipped was profile baselines against entities text codec are from s =
    let words = profile.code in
    let table = profile.entity in
    let here = spelled words table baselines (base_entities against) entities text [] codec.code codec.entity are from.list from.states s in
    let over = skipped words table baselines (base_entities against) entities (text ++ []) [] codec.entity are from.states here in
    let is = was words table (text ++ []) [] codec.code codec.entity over in
    subst (SpellsSkipped words table) (all_read text is.0 is.1) is.2

-- a base that is named is at a distance
at_distance : (number base distance : ℕ) → base ≡ number_of_base number distance → 0 < base → 0 < distance
at_distance number base zero named some = absurd (omega (arith, named, none_named number, some))
at_distance number base (suc distance) named some = omega arith

snapshot_over : player.ZeroIsNormal → player.SpelledIsRead → player.PlayersEndAlike → player.ReadIsSpelled → entity.ListSpelledIsRead → entity.ReadIsSkipped → entity.SkippedIsSpelled
    → (profile : Profile) (context other : Context) (number base : ℕ) (snap : SnapHead) (entities : List EntityState) (text : List Bool) → IsCodec profile → IsContext profile context → 0 < base
    → held_base other base ≡ None → SpellsSnapshot profile context number base snap entities text → SpellsSkippedSnapshot profile other number base text
snapshot_over zero_is spelled alike read list_law skip_law skipped_law profile context other number base snap entities text codec is some none s =
    let from = held_is_normal profile context codec is zero_is base (held_base context base) refl in
    let player = player_over spelled alike read profile (base_player (held_base context base)) zero_player snap.player s.player codec from.state
    (zero_is profile.player.kinds codec.player.kinds).0 s.state s.of_player in
    let head = s.of_head in
    record {
      distance = s.distance;
      some = at_distance number base s.distance s.named some;
      named = s.named;
      not_held = none;
      snap = record snap { player = player.0 };
      head = s.head;
      player = s.player;
      list = s.list;
      of_head = record { under = head.under; time = head.time; near = head.near; flags = head.flags; area = head.area; short = head.short; text = head.text };
      state = player.1;
      of_player = player.2;
      of_list = list_over list_law skip_law skipped_law profile context.baselines (held_base context base) entities s.list codec is.baselines from s.of_list;
      whole = s.whole;
    }

pub message_is_skipped : player.ZeroIsNormal → player.SpelledIsRead → player.PlayersEndAlike → player.ReadIsSpelled → entity.ListSpelledIsRead → entity.ReadIsSkipped → entity.SkippedIsSpelled
    → ReadIsSpelled → SpelledIsRead → ReadIsSkipped
message_is_skipped zero_is spelled alike read list_law skip_law skipped_law was_spelled is_read profile context other number base head entities message bits rest codec is is' section some none e =
    let found = was_spelled profile context number message bits rest codec is e in
    let text = found.1 in
    let s = found.3 in
    let of_snapshot : SpellsSnapshot profile context number base head entities s.section = subst (λ (told : Told). SpellsSection profile context number told s.section) section s.of_section in
    let skipped : Message = record message { section = Skipped base } in
    let spells : SpellsMessage profile other number skipped text = record {
      ack = s.ack;
      few = s.few;
      section = s.section;
      operations = s.operations;
      of_section = snapshot_over zero_is spelled alike read list_law skip_law skipped_law profile context other number base head entities s.section codec is some none of_snapshot;
      of_operations = s.of_operations;
      whole = s.whole;
    } in
    ap (λ (bits : List Bool). server_message_at profile other number bits) found.2 ∙ is_read profile other number skipped text rest codec is' spells
