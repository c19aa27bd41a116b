-- A server wants no memory, and does nothing to files.
use Rattle.std.proofs.Common.{◌≡◌, ℕ, false, [], Option, Some, None, refl}
use Rattle.q3_io.specs.declared.address.Address.{Address}
use Rattle.q3_script.specs.declared.event.Event.{Event}
use Rattle.q3_script.specs.declared.event.Event.TheVariants.{Client, Serve}
use Rattle.q3_server.specs.Server.{ServerState}
use Rattle.q3_ends.specs.AtServer.{ServerStep, server_line}
use Rattle.q3_node.specs.Node.{LineDone}
use Rattle.q3_node.specs.AtServer.{game_done, line_done, server_rules}
use Rattle.q3_node.specs.Laws.{IsFrugal}
use Rattle.q3_node.proofs.Turning.{keeps_files, none_wants}

-- what it does at any line
pub record SparesBoth (done : LineDone ServerState) : Type 0 where
  pub acts : done.acts ≡ []
  pub memory : done.memory ≡ false

game : (server : ServerState) (step : Option ServerStep) → SparesBoth (game_done server step)
game server None = record { acts = refl; memory = refl }
game server (Some step) = record { acts = refl; memory = refl }

pub frugal : (server : ServerState) (event : Event) (number : ℕ) → SparesBoth (line_done server event number)
frugal server (Client c challenge qport dup address) number = record { acts = refl; memory = refl }
frugal server (Serve c) number = record { acts = refl; memory = refl }
frugal server event number = game server (server_line server event)

pub server_is_frugal : IsFrugal server_rules
server_is_frugal = record {
  acts = keeps_files server_rules (λ server event number. (frugal server event number).acts) (λ server parcel. refl);
  memory = none_wants server_rules (λ server event number. (frugal server event number).memory);
}

-- a line that is neither of these two is one of the game
pub game_line : (server : ServerState) (event : Event) (number : ℕ) → ((c challenge qport dup : ℕ) (address : Address) → event ≡ Client c challenge qport dup address → ⊥) → ((c : ℕ) → event ≡ Serve c → ⊥)
    → line_done server event number ≡ game_done server (server_line server event)
game_line server (Client c challenge qport dup address) number client serve = absurd (client c challenge qport dup address refl)
game_line server (Serve c) number client serve = absurd (serve c refl)
game_line server event number client serve = refl
