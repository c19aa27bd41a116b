-- Settings after commands.
use Rattle.std.proofs.Common.{◌≡◌, ℕ, ◌+◌, ◌<◌, List, ◌∷◌, length, get_or, drop, refl, sym, ap, ◌∙◌}
use Rattle.std.proofs.lemmas.List.{drop_more}
use Rattle.q3_text.specs.declared.text.Command.{Command}
use Rattle.q3_config.specs.Changes.{after_command}
use Rattle.q3_clstate.specs.State.{Settings, settled, tells_id, after_texts}

-- commands go on by what the first does
pub after_texts-cons : (settings : Settings) (command : Command) (commands : List Command)
    → after_texts settings (command ∷ commands)
    ≡ after_texts (settled settings.id (tells_id command.text) (after_command settings.strings command.text)) commands
unfolding after_texts
after_texts-cons settings command commands = refl

-- a command is the first of those from its place on
pub item_is : (commands : List Command) (place : ℕ) (command : Command) → place < length commands → command ≡ get_or commands place command
    → drop place commands ≡ command ∷ drop (place + 1) commands
item_is commands place command within is =
    drop_more commands place command within ∙ ap (λ (command : Command). command ∷ drop (place + 1) commands) (sym is)
