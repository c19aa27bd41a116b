-- What a snapshot is read against is in normal form.
use Rattle.std.proofs.Common.{◌≡◌, ◌+◌, ℕ, zero, suc, Option, Some, None, arith}
use Rattle.std.proofs.lemmas.List.Elements.{All-nil}
use Rattle.q3_player.specs.State.{IsState, IsNormal}
use Rattle.q3_player.specs.Laws as player
use Rattle.q3_entity.specs.Entities.{IsList, AreStates, AreNormal}
use Rattle.q3_profile.specs.declared.profile.Profile.{Profile}
use Rattle.q3_profile.specs.Profile.{IsCodec}
use Rattle.q3_svmsg.specs.Values.{Base, base_player, base_entities, Context}
use Rattle.q3_svmsg.specs.Reading.{held_base}
use Rattle.q3_svmsg.specs.Laws.{IsContext}

-- a base, or none, in normal form
pub record IsFrom (profile : Profile) (against : Option Base) : Type 0 where
  pub state : IsState (base_player against)
  pub normal : IsNormal profile.player.kinds (base_player against)
  pub list : IsList profile.entity (base_entities against)
  pub states : AreStates (base_entities against)
  pub normal_entities : AreNormal profile.entity (base_entities against)

-- what is held is in normal form, and so is nothing
pub held_is_normal : (profile : Profile) (context : Context) → IsCodec profile → IsContext profile context → player.ZeroIsNormal
    → (base : ℕ) (against : Option Base) → held_base context base ≡ against → IsFrom profile against
held_is_normal profile context codec is zero_is base None held =
    let none = zero_is profile.player.kinds codec.player.kinds in
    record {
      state = none.0;
      normal = none.1;
      list = record { rise = tt; few = omega arith };
      states = All-nil _;
      normal_entities = All-nil _;
    }
held_is_normal profile context codec is zero_is zero (Some base) held = absurd cc
held_is_normal profile context codec is zero_is (suc number) (Some base) held =
    let known = is.bases (number + 1) base held in
    record {
      state = known.state;
      normal = known.normal;
      list = known.entities.list;
      states = known.entities.states;
      normal_entities = known.normal_entities;
    }
