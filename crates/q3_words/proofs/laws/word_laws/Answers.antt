use Rattle.q3_words.proofs.Spaces.{words_at_space, second_of_line}
use Rattle.q3_words.proofs.Prefixes.{after_prefix-spelled, after_prefix-again}
use Rattle.q3_words.proofs.NumberWords.{number_word-spelled, number_word-again}
use Rattle.q3_words.proofs.Addresses.{address_at-spelled, address_at-again}
use Rattle.q3_words.proofs.NameWords.{name_at-is, name_at-again}
use Rattle.q3_words.proofs.HexWords.{hex_within-spelled, hex_within-again, area_at-spelled, area_at-again}
use Rattle.q3_words.proofs.Unquoted.{bytes_word-spelled, bytes_word-again, text_word-spelled, text_word-again}
use Rattle.q3_words.proofs.FieldWords.{entity_at-spelled, entity_at-again, player_at-spelled, player_at-again}
use Rattle.q3_words.proofs.laws.word_laws.Goals as goal

pub returns : goal.returns
returns c =
    let laws = c.text_laws.ensures in
    record {
      below = laws;
      lines = record { first = words_at_space; others = second_of_line };
      prefixes = record { spelled = after_prefix-spelled; read = after_prefix-again };
      numbers = record { spelled = number_word-spelled laws; read = number_word-again laws };
      addresses = record { spelled = address_at-spelled laws; read = address_at-again laws };
      names = record { spelled = name_at-is; read = name_at-again };
      hex = record { spelled = hex_within-spelled; read = hex_within-again };
      areas = record { spelled = area_at-spelled; read = area_at-again };
      bytes = record { spelled = bytes_word-spelled; read = bytes_word-again };
      texts = record { spelled = text_word-spelled; read = text_word-again };
      entities = record { spelled = entity_at-spelled laws; read = entity_at-again laws };
      players = record { spelled = player_at-spelled laws; read = player_at-again laws };
    }
