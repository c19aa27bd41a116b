use Rattle.std.proofs.Common.{◌≡◌, ◌∙◌, List, ap, replicate}
use Rattle.q3_fields.specs.Places.{Change, with_changes}
use Rattle.q3_words.specs.Fields.{values_of}
use Rattle.q3_words.specs.Kept.{player_of_words}
use Rattle.q3_words.proofs.kept_player.KeptPlayer.player.Goals as goal

pub returns : goal.returns
returns c =
    let put : c.put.new.words ≡ values_of 128 c.self.inside.words.items = c.put.ensures ∙ ap (λ (kept : List Change). with_changes (replicate 128 0) kept) c.deref.ensures.value in
    c.player_of_words.ensures ∙ ap player_of_words put ∙ c.self.view_is
