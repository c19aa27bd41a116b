use Rattle.std.proofs.Common.{◌+◌, List, [], ◌∷◌, ◌++◌, length, drop, sym, ap, ◌∙◌, append_assoc, append-nil, length-append, arith}
use Rattle.std.proofs.lemmas.List.{drop_all}
use Rattle.q3_text.specs.declared.text.Command.{Command}
use Rattle.q3_window.specs.Incoming.{fresh_of}
use Rattle.q3_window.proofs.Runs.{fresh_known, fresh_new, item_is}
use Rattle.q3_window.proofs.incoming.put_fresh.Goals as goal

pub loop-command-preserved-then-command-last : goal.loop-command-preserved-then-command-last
loop-command-preserved-then-command-last c =
    let command = c.command-item.result in
    let place = c.loop-command.command-index in
    let commands = c.args.commands.now in
    let few = c.loop-command.invariant.few in
    record {
      whole =
          ap (λ (fresh : List Command). c.loop-command.ran ++ fresh)
          (sym (fresh_known c.loop-command.last command (drop (place + 1) commands) (omega arith))
          ∙ sym (ap (fresh_of c.loop-command.last) (item_is commands place command (omega arith) c.command-item.is)))
          ∙ c.loop-command.invariant.whole;
      few = omega arith;
    }

pub loop-command-preserved : goal.loop-command-preserved
loop-command-preserved c =
    let command = c.command-item.result in
    let place = c.loop-command.command-index in
    let commands = c.args.commands.now in
    let ran = c.loop-command.ran in
    let few = c.loop-command.invariant.few in
    let count = ap length c.push_copy.ensures ∙ length-append ran (command ∷ []) in
    let rest : List Command = fresh_of command.number (drop (place + 1) commands) in
    record {
      whole =
          ap (λ (items : List Command). items ++ rest) c.push_copy.ensures ∙ append_assoc ran (command ∷ []) rest
          ∙ ap (λ (fresh : List Command). ran ++ fresh)
          (sym (fresh_new c.loop-command.last command (drop (place + 1) commands) (omega arith))
          ∙ sym (ap (fresh_of c.loop-command.last) (item_is commands place command (omega arith) c.command-item.is)))
          ∙ c.loop-command.invariant.whole;
      few = omega arith;
    }

pub returns : goal.returns
unfolding fresh_of
returns c =
    sym (append-nil c.loop-command.ran)
    ∙ sym (ap (λ (commands : List Command). c.loop-command.ran ++ fresh_of c.loop-command.last commands) (drop_all c.loop-command.command-index c.args.commands.now (omega arith)))
    ∙ c.loop-command.invariant.whole
