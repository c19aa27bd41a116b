use Rattle.q3_server.proofs.Stays as stays
use Rattle.q3_server.proofs.laws.server_stays.Goals as goal

pub returns : goal.returns
returns c =
    let below = c.below.ensures in
    record {
      none = stays.new_stays below;
      joins = λ server a b d address is. stays.joins_stay below server is a b d address;
      new_map = λ server id feed least short is. stays.map_stays below server is id feed least short;
      baseline = λ server state number words is. stays.baseline_stays below server is state number words;
      entity = λ server state number words is. stays.entity_stays below server is state number words;
      remove = λ server number is. stays.remove_stays below server is number;
      time = λ server time short is. stays.time_stays below server is time short;
      player = λ server a player state is. stays.player_stays below server is a player state;
      area = λ server a area few is. stays.area_stays below server is a area few;
      delays = λ server a on is. stays.delayed_stays below server is a on;
      config = λ server index text is. stays.config_stays below server is index text;
      says = λ server a text is. stays.says_stay below server is a text;
      emits = λ server a is. stays.emits_stay below server is a;
      takes = λ server from bytes is. stays.takes_stay below server is from bytes;
    }
