-- The line goes behind the text that is held, and goes on with it.
use Rattle.std.proofs.Common.{◌∷◌, ◌++◌, ◌∙◌, [], refl}
use Rattle.std.proofs.lemmas.List.{append_assoc}
use Rattle.scene_words.specs.Printed.{line_of, printed}
use Rattle.frame_player.specs.Outlet.{outlet_of}
use Rattle.frame_player.proofs.Sending.{sent_as}
use Rattle.frame_player.proofs.scene_upgrade.send_command.Goals as goal

pub returns : goal.returns
unfolding line_of
returns g c =
    let at = outlet_of g.K.Sink.written g.K.Sink.faults g.K.Sink.since in
    let left = c.hand_on.new.self.text.now.items in (
      c.hand_on.ensures.0,
      sent_as (at c.args.out.now) (at c.hand_on.new.self) c.print_command.new.out.items left (c.args.out.now.text.now.items ++ line_of c.args.command.now) left
          c.hand_on.result (c.in_ok-print_command.ensures.ok
          ∙ append_assoc c.args.out.now.text.now.items (printed c.args.command.now) (10 ∷ [])) refl c.hand_on.ensures.1,
    )
