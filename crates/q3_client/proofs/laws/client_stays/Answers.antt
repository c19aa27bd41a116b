use Rattle.q3_client.proofs.Stays.{are_received, joins_stay, moves_stay, types_stay, asks_stay, emits_stay, takes_stay}
use Rattle.q3_client.proofs.laws.client_stays.Goals as goal

pub returns : goal.returns
returns c =
    let applies = c.apply_stays.ensures in
    let stays = c.stays_outgoing.ensures in
    let gathers = c.ends_gather.ensures in
    let ends = c.ends_send.ensures in
    record {
      joins = joins_stay applies stays;
      moves = moves_stay;
      types = types_stay stays;
      asks = asks_stay;
      emits = emits_stay ends;
      takes = takes_stay gathers applies stays;
      receives = λ client number bytes received fits is window e. (are_received applies stays client number bytes received fits is window e).applied;
    }
