use Rattle.std.proofs.Common.{◌∷◌, []}
use Rattle.std.proofs.lemmas.Result.{err_from_is_err_and}
use Rattle.q3_bits.specs.Words.{row_bits}
use Rattle.q3_config.specs.Strings.{places, string_at}
use Rattle.q3_entity.specs.Baselines.{most_baselines, set_at}
use Rattle.q3_gamestate.specs.Texts.{config_bits, baseline_bits, numbered, gamestate_bits}
use Rattle.q3_gamestate.proofs.writing.write_gamestate.Goals as goal

pub returns-in_err-put_all : goal.returns-in_err-put_all
unfolding gamestate_bits
returns-in_err-put_all c =
    let law = c.texts_are_written.ensures in
    let words = c.args.w.now.words in
    let numbers = c.args.numbers in
    let configs = c.args.configs.now in
    let baselines = c.args.baselines.now in
    let p = err_from_is_err_and c.from_residual.result c.from_residual.ensures.1 in
    rw (p.1, p.2) (law.refused (row_bits words ((8, 8) ∷ (numbers.slot, 32) ∷ (numbers.feed, 32) ∷ []))
    (law.refused (numbered most_baselines 0 (λ number. baseline_bits words c.args.profile.now.entity (set_at baselines number)))
    (law.refused (numbered places 0 (λ index. config_bits words index (string_at configs index))) c.in_err-put_all.ensures)))

pub returns-in_err-write_configs : goal.returns-in_err-write_configs
unfolding gamestate_bits
returns-in_err-write_configs c =
    let law = c.texts_are_written.ensures in
    let words = c.args.w.now.words in
    let numbers = c.args.numbers in
    let configs = c.args.configs.now in
    let baselines = c.args.baselines.now in
    let p = err_from_is_err_and c.from_residual-in_err-write_configs.result c.from_residual-in_err-write_configs.ensures.1 in
    let both = law.next (λ ws. numbered places 0 (λ index. config_bits ws index (string_at configs index))) c.in_ok-put_all.ensures c.in_err-write_configs.ensures in
    rw (p.1, p.2) (law.refused (row_bits words ((8, 8) ∷ (numbers.slot, 32) ∷ (numbers.feed, 32) ∷ []))
    (law.refused (numbered most_baselines 0 (λ number. baseline_bits words c.args.profile.now.entity (set_at baselines number))) both))

pub returns-in_err-write_baselines : goal.returns-in_err-write_baselines
unfolding gamestate_bits
returns-in_err-write_baselines c =
    let law = c.texts_are_written.ensures in
    let words = c.args.w.now.words in
    let numbers = c.args.numbers in
    let configs = c.args.configs.now in
    let baselines = c.args.baselines.now in
    let p = err_from_is_err_and c.from_residual-in_err-write_baselines.result c.from_residual-in_err-write_baselines.ensures.1 in
    let both = law.next (λ ws. numbered places 0 (λ index. config_bits ws index (string_at configs index))) c.in_ok-put_all.ensures c.in_ok-write_configs.ensures in
    let three = law.next (λ ws. numbered most_baselines 0 (λ number. baseline_bits ws c.args.profile.now.entity (set_at baselines number))) both c.in_err-write_baselines.ensures in
    rw (p.1, p.2) (law.refused (row_bits words ((8, 8) ∷ (numbers.slot, 32) ∷ (numbers.feed, 32) ∷ [])) three)

pub returns : goal.returns
unfolding gamestate_bits
returns c =
    let law = c.texts_are_written.ensures in
    let numbers = c.args.numbers in
    let configs = c.args.configs.now in
    let baselines = c.args.baselines.now in
    let both = law.next (λ ws. numbered places 0 (λ index. config_bits ws index (string_at configs index))) c.in_ok-put_all.ensures c.in_ok-write_configs.ensures in
    let three = law.next (λ ws. numbered most_baselines 0 (λ number. baseline_bits ws c.args.profile.now.entity (set_at baselines number))) both c.in_ok-write_baselines.ensures in
    law.next (λ ws. row_bits ws ((8, 8) ∷ (numbers.slot, 32) ∷ (numbers.feed, 32) ∷ [])) three c.put_all-2.ensures
