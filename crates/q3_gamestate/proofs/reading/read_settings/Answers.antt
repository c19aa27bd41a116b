use Rattle.std.proofs.Common.{◌≡◌, refl, ◌∙◌, ◌==◌, false, sym, arith}
use Rattle.std.proofs.lemmas.Result.{err_from_is_err_and}
use Rattle.std.proofs.lemmas.Bool.Decides.{nat_tests}
use Rattle.q3_gamestate.proofs.Settings.{takes_turn, settings_fault, settings_done, settings_config, settings_config_fault, settings_baseline, settings_baseline_fault, settings_bad}
use Rattle.q3_gamestate.proofs.SettingsSpelled.{config_shorter, baseline_shorter}
use Rattle.q3_gamestate.proofs.reading.read_settings.Goals as goal

pub returns-in_err-operation : goal.returns-in_err-operation
returns-in_err-operation c =
    let p = err_from_is_err_and c.from_residual.result c.from_residual.ensures.1 in
    let h = c.loop-r.invariant in
    let profile = record c.args.profile.now { code = c.args.r.now.words } in
    let read = rw h.words at c.in_err-operation.ensures.reads.value in
    rw (p.1, p.2) (record {
      value = sym (settings_fault profile _ _ c.turns_are_taken.ensures c.requires c.loop-r.r.left c.in_err-operation.field-0.0 h.turns read h.enough) ∙ h.reads;
      words = c.in_err-operation.ensures.reads.words ∙ h.words;
      place = c.in_err-operation.ensures.reads.place ∙ h.place;
    })

pub loop-r-smaller-in-Continue-branch-3 : goal.loop-r-smaller-in-Continue-branch-3
loop-r-smaller-in-Continue-branch-3 c =
    let one = takes_turn c.turns_are_taken.ensures c.requires c.loop-r.invariant c.in-3.is c.in_ok-operation.ensures.reads in
    let config = rw one.words at c.in_ok-read_config-in-3.ensures.value in
    let after = config_shorter c.read_was_put.ensures c.string_read_is_spelled.ensures c.args.r.now.words c.requires c.loop-r.configs c.get.new.self.left (c.read_config.new.configs, c.read_config.new.r.left) (sym config) in
    omega (arith, one.shorter, after)

pub loop-r-preserved-in-Continue-branch-3 : goal.loop-r-preserved-in-Continue-branch-3
loop-r-preserved-in-Continue-branch-3 c =
    let h = c.loop-r.invariant in
    let profile = record c.args.profile.now { code = c.args.r.now.words } in
    let one = takes_turn c.turns_are_taken.ensures c.requires h c.in-3.is c.in_ok-operation.ensures.reads in
    let config = rw one.words at c.in_ok-read_config-in-3.ensures.value in
    let after = config_shorter c.read_was_put.ensures c.string_read_is_spelled.ensures profile.code c.requires c.loop-r.configs c.get.new.self.left (c.read_config.new.configs, c.read_config.new.r.left) (sym config) in
    record {
      words = c.in_ok-read_config-in-3.ensures.words ∙ one.words;
      place = c.in_ok-read_config-in-3.ensures.place ∙ one.place;
      turns = one.left;
      enough = omega (arith, one.enough, after);
      reads = sym (settings_config profile c.loop-r.configs c.loop-r.baselines c.loop-r.r.left c.get.new.self.left c.read_config.new.r.left c.read_config.new.configs h.turns one.left one.read one.is config) ∙ h.reads;
    }

pub returns-in_err-read_config-in-3 : goal.returns-in_err-read_config-in-3
returns-in_err-read_config-in-3 c =
    let p = err_from_is_err_and c.from_residual-in_err-read_config-in-3.result c.from_residual-in_err-read_config-in-3.ensures.1 in
    let h = c.loop-r.invariant in
    let profile = record c.args.profile.now { code = c.args.r.now.words } in
    let one = takes_turn c.turns_are_taken.ensures c.requires h c.in-3.is c.in_ok-operation.ensures.reads in
    let fault = rw one.words at c.in_err-read_config-in-3.ensures.value in
    rw (p.1, p.2) (record {
      value = sym (settings_config_fault profile c.loop-r.configs c.loop-r.baselines c.loop-r.r.left c.get.new.self.left _ h.turns one.left one.read one.is fault) ∙ h.reads;
      words = c.in_err-read_config-in-3.ensures.words ∙ one.words;
      place = c.in_err-read_config-in-3.ensures.place ∙ one.place;
    })

pub loop-r-smaller : goal.loop-r-smaller
loop-r-smaller c =
    let profile = record c.args.profile.now { code = c.args.r.now.words } in
    let one = takes_turn c.turns_are_taken.ensures c.requires c.loop-r.invariant c.in-4.is c.in_ok-operation.ensures.reads in
    let baseline = rw one.words at c.in_ok-read_baseline-in-4.ensures.value in
    let after = baseline_shorter c.read_was_put.ensures c.zero_is_normal.ensures c.entry_read_is_spelled.ensures profile c.requires c.count.ensures.is_table c.loop-r.baselines c.get.new.self.left
    (c.read_baseline.new.baselines, c.read_baseline.new.r.left) (sym baseline) in
    omega (arith, one.shorter, after)

pub loop-r-preserved : goal.loop-r-preserved
loop-r-preserved c =
    let h = c.loop-r.invariant in
    let profile = record c.args.profile.now { code = c.args.r.now.words } in
    let one = takes_turn c.turns_are_taken.ensures c.requires h c.in-4.is c.in_ok-operation.ensures.reads in
    let baseline = rw one.words at c.in_ok-read_baseline-in-4.ensures.value in
    let after = baseline_shorter c.read_was_put.ensures c.zero_is_normal.ensures c.entry_read_is_spelled.ensures profile c.requires c.count.ensures.is_table c.loop-r.baselines c.get.new.self.left
    (c.read_baseline.new.baselines, c.read_baseline.new.r.left) (sym baseline) in
    record {
      words = c.in_ok-read_baseline-in-4.ensures.words ∙ one.words;
      place = c.in_ok-read_baseline-in-4.ensures.place ∙ one.place;
      turns = one.left;
      enough = omega (arith, one.enough, after);
      reads = sym (settings_baseline profile c.loop-r.configs c.loop-r.baselines c.loop-r.r.left c.get.new.self.left c.read_baseline.new.r.left c.read_baseline.new.baselines h.turns one.left one.read one.is baseline) ∙ h.reads;
    }

pub returns-in_err-read_baseline-in-4 : goal.returns-in_err-read_baseline-in-4
returns-in_err-read_baseline-in-4 c =
    let p = err_from_is_err_and c.from_residual-in_err-read_baseline-in-4.result c.from_residual-in_err-read_baseline-in-4.ensures.1 in
    let h = c.loop-r.invariant in
    let profile = record c.args.profile.now { code = c.args.r.now.words } in
    let one = takes_turn c.turns_are_taken.ensures c.requires h c.in-4.is c.in_ok-operation.ensures.reads in
    let fault = rw one.words at c.in_err-read_baseline-in-4.ensures.value in
    rw (p.1, p.2) (record {
      value = sym (settings_baseline_fault profile c.loop-r.configs c.loop-r.baselines c.loop-r.r.left c.get.new.self.left _ h.turns one.left one.read one.is fault) ∙ h.reads;
      words = c.in_err-read_baseline-in-4.ensures.words ∙ one.words;
      place = c.in_err-read_baseline-in-4.ensures.place ∙ one.place;
    })

pub returns-in-8 : goal.returns-in-8
returns-in-8 c =
    let h = c.loop-r.invariant in
    let profile = record c.args.profile.now { code = c.args.r.now.words } in
    let one = takes_turn c.turns_are_taken.ensures c.requires h c.in-8.is c.in_ok-operation.ensures.reads in
    record {
      value = sym (settings_done profile c.loop-r.configs c.loop-r.baselines c.loop-r.r.left c.get.new.self.left h.turns one.left one.read one.is) ∙ h.reads;
      words = one.words;
      place = one.place;
    }

pub returns-in_default : goal.returns-in_default
returns-in_default c =
    let h = c.loop-r.invariant in
    let profile = record c.args.profile.now { code = c.args.r.now.words } in
    let byte = c.in_ok-operation.operation in
    let one = takes_turn c.turns_are_taken.ensures c.requires h refl c.in_ok-operation.ensures.reads in
    let not_end : (byte == 8) ≡ false = grind (arith, nat_tests) in
    let not_config : (byte == 3) ≡ false = grind (arith, nat_tests) in
    let not_baseline : (byte == 4) ≡ false = grind (arith, nat_tests) in
    record {
      value = sym (settings_bad profile c.loop-r.configs c.loop-r.baselines c.loop-r.r.left c.get.new.self.left byte h.turns one.left one.read one.is not_end not_config not_baseline) ∙ h.reads;
      words = one.words;
      place = one.place;
    }
