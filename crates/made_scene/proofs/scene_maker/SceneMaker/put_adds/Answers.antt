-- Each turn puts one add of those that were left.
use Rattle.std.proofs.Common.{◌∙◌}
use Rattle.scene_words.specs.Printed.{line_of}
use Rattle.made_scene.specs.MadeScene.{add_command}
use Rattle.made_scene.proofs.PartsPut.{add_put, kept_on}
use Rattle.made_scene.proofs.scene_maker.SceneMaker.put_adds.Goals as goal

pub boxes-preserved : goal.boxes-preserved
boxes-preserved c =
    let now = c.put_add.new.out.items in
    let o = c.args.out.now in
    let told = c.in_ok-put_add.ensures in
    let put = add_put c.args.boxes c.boxes.count c.boxes.self c.put_add.new.self c.boxes.out.items now c.boxes-test.true told.state told.text in
    record {
      state = put.0 ∙ c.boxes.invariant.state;
      text = put.1 ∙ c.boxes.invariant.text;
      kept = kept_on o.len o.items c.boxes.out.items now (line_of (add_command c.boxes.self)) o.ok.0 c.boxes.invariant.kept told.text;
    }
