-- The server's config strings, as they follow from each gamestate of the map that was built for a client, by the commands that were
-- issued for it since.
use Rattle.std.proofs.Common.{List, None, Option, Some, [], ap, arith, drop, inl, inr, length, refl, subst, sym, ℕ, ◌++◌, ◌∙◌, ◌∷◌, ◌≡◌, ◌≤◌}
use Rattle.std.specs.Prelude.{All, IfSome}
use Rattle.std.proofs.Math.Seq.{drop-length}
use Rattle.std.proofs.lemmas.List.{append-nil, append_assoc, drop-append-le, length-append, length_push}
use Rattle.std.proofs.lemmas.List.Elements.{All-nil}
use Rattle.q3_clstate.specs.State.{AppliedState, new_state}
use Rattle.q3_config.specs.Changes.{after_command, after_commands, after_shape}
use Rattle.q3_config.specs.Commands.{Change, change_in}
use Rattle.q3_config.specs.Strings.{Strings}
use Rattle.q3_gamestate.specs.Values.{Gamestate}
use Rattle.q3_profile.specs.declared.profile.Profile.{Profile}
use Rattle.q3_built.specs.Built.{Built}
use Rattle.q3_svmsg.specs.Values as told
use Rattle.q3_world.specs.Games.{Carries, Tells}
use Rattle.q3_world.specs.World.{Played, built_at}
use Rattle.q3_world.proofs.GamesParts.{built_front, carries_cases}
use Rattle.q3_world.proofs.GamesTexts.{after_commands-append}
use Rattle.q3_schedules.proofs.PiecesEnd.{LeaveNone, Pauses, pauses_built, pauses_issued, pauses_nothing}

-- ---- what follows

-- strings are those of a gamestate, with the changes that the commands tell which were issued after it
pub record IsFollowed (game : Gamestate) (strings : Strings) (issued : List (List ℕ)) : Type 0 where
  pub known : game.command ≤ length issued
  pub same : after_commands game.strings (drop game.command issued) ≡ strings

-- a gamestate was applied with a message up to a number, and where it was, all commands up to its own were executed
pub record IsHeard (number : ℕ) (played : Played) : Type 0 where
  pub most : played.number ≤ number
  pub up_to : played.executed ≡ played.game.command

-- a client executed all commands that were issued when the last message that it applied was begun
pub record HasHeard (state : AppliedState) (built : List Built) (games : List Played) : Type 0 where
  pub begun : state.number ≤ length built
  pub last : 1 ≤ state.number → state.executed.executed ≡ (built_at built state.number).last
  pub each : All (IsHeard state.number) games

-- a list went on
pub record Grew {X : Type 0} (old now : List X) : Type 0 where
  pub more : List X
  pub is : now ≡ old ++ more

-- of one client: the strings of the map of an id follow from each gamestate of that map that was built for it, it executed what was
-- issued, messages and commands went on since, and no message was begun amid the pieces of a change
pub record Follows (id : ℕ) (strings : Strings) (old : List Built) (before : List (List ℕ)) (state : Option AppliedState) (built : List Built) (games : List Played) (issued : List (List ℕ)) : Type 0 where
  pub each : (n : ℕ) (game : Gamestate) → Carries built n game → Tells game id → IsFollowed game strings issued
  pub heard : IfSome state (λ s. HasHeard s built games)
  pub built_on : Grew old built
  pub issued_on : Grew before issued
  pub pauses : Pauses built issued

pub Grew-none : {X : Type 0} (xs : List X) → Grew xs xs
Grew-none xs = record { more = []; is = sym (append-nil xs) }

Grew-more : {X : Type 0} (old now more : List X) → Grew old now → Grew old (now ++ more)
Grew-more {X = X} old now more grew =
    record { more = grew.more ++ more; is = ap (λ (xs : List X). xs ++ more) grew.is ∙ append_assoc old grew.more more }

-- before the first event
pub follows_nothing : (id : ℕ) (strings : Strings) → Follows id strings [] [] None [] [] []
follows_nothing id strings =
    record {
      each = λ n game is tells. let some = is.some in let begun = is.begun in absurd (omega (arith, some, begun));
      heard = tt;
      built_on = Grew-none [];
      issued_on = Grew-none [];
      pauses = pauses_nothing;
    }

-- ---- commands that change nothing, or the strings

-- a text of another shape changes nothing
pub nothing_changes : (strings : Strings) (text : List ℕ) → change_in text ≡ None → after_commands strings (text ∷ []) ≡ strings
unfolding after_commands after_command
nothing_changes strings text none = ap (λ (found : Option Change). (after_shape strings found).strings) none

pub no_commands : (strings : Strings) → after_commands strings [] ≡ strings
unfolding after_commands
no_commands strings = refl

module _ (id : ℕ) (strings : Strings) (old : List Built) (before : List (List ℕ)) (state : Option AppliedState) (built : List Built) (games : List Played) (issued : List (List ℕ)) where
  -- a map of which no gamestate was built
  pub follows_anew : (new : ℕ) (now : Strings) → ((n : ℕ) (game : Gamestate) → Carries built n game → Tells game new → ⊥)
      → Follows id strings old before state built games issued → Follows new now old before state built games issued
  follows_anew new now none follows =
      record { each = λ n game is tells. absurd (none n game is tells); heard = follows.heard; built_on = follows.built_on; issued_on = follows.issued_on; pauses = follows.pauses }

  -- commands are issued that make other strings of these
  pub follows_issued : (now : Strings) (texts : List (List ℕ)) → after_commands strings texts ≡ now → LeaveNone texts
      → Follows id strings old before state built games issued → Follows id now old before state built games (issued ++ texts)
  follows_issued now texts makes leave follows =
      record {
        each = λ n game is tells.
            let was = follows.each n game is tells in
            let known = was.known in
            record {
              known = omega (arith, known, length-append issued texts);
              same = ap (after_commands game.strings) (drop-append-le game.command issued texts known)
                  ∙ (after_commands-append game.strings (drop game.command issued) texts
                  ∙ (ap (λ (s : Strings). after_commands s texts) was.same ∙ makes));
            };
        heard = follows.heard;
        built_on = follows.built_on;
        issued_on = Grew-more before issued texts follows.issued_on;
        pauses = pauses_issued built issued texts leave follows.pauses;
      }

  -- a message is begun: a gamestate has the strings of the map, and the number of the last command
  pub follows_built : (next : Built) → strings.pending ≡ None → next.last ≡ length issued
      → ((game : Gamestate) → next.message.section ≡ told.Game game → (game.strings ≡ strings) × (game.command ≡ length issued))
      → Follows id strings old before state built games issued → Follows id strings old before state (built ++ next ∷ []) games issued
  follows_built next none last has follows =
      record {
        each = λ n game is tells.
            elim (carries_cases built next n game is) [
              | inl was ↦ follows.each n game was tells
              | inr last ↦
                  let so = has game last.1 in
                  let command = so.1 in
                  record {
                    known = omega (arith, command);
                    same = ap (λ (k : ℕ). after_commands game.strings (drop k issued)) command
                        ∙ (ap (after_commands game.strings) (drop-length issued) ∙ (no_commands game.strings ∙ so.0));
                  }
            ];
        heard = still state follows.heard;
        built_on = Grew-more old built (next ∷ []) follows.built_on;
        issued_on = follows.issued_on;
        pauses = pauses_built built issued next last (λ game e. ap (λ (s : Strings). s.pending) (has game e).0 ∙ none) follows.pauses;
      }
    where
      still : (o : Option AppliedState) → IfSome o (λ s. HasHeard s built games) → IfSome o (λ s. HasHeard s (built ++ next ∷ []) games)
      still None heard = tt
      still (Some s) heard =
          let begun = heard.begun in
          record {
            begun = omega (arith, begun, length_push built next);
            last = λ some. heard.last some ∙ sym (ap (λ (b : Built). b.last) (built_front built (next ∷ []) s.number some begun));
            each = heard.each;
          }

  -- a client joins, of which nothing was noted
  pub follows_joined : (profile : Profile) → games ≡ [] → Follows id strings old before state built games issued
      → Follows id strings old before (Some (new_state profile)) built games issued
  follows_joined profile none follows =
      record {
        each = follows.each;
        heard = record {
          begun = omega arith;
          last = λ some. absurd (omega (arith, some));
          each = subst (All (IsHeard 0)) (sym none) (All-nil (IsHeard 0));
        };
        built_on = follows.built_on;
        issued_on = follows.issued_on;
        pauses = follows.pauses;
      }

  -- or takes a message
  pub follows_taken : (after : AppliedState) (more : List Played) → HasHeard after built more → Follows id strings old before state built games issued
      → Follows id strings old before (Some after) built more issued
  follows_taken after more heard follows = record { each = follows.each; heard = heard; built_on = follows.built_on; issued_on = follows.issued_on; pauses = follows.pauses }
