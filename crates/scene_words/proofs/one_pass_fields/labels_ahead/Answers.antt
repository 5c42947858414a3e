-- What is read from the front is the labels.
use Rattle.scene_words.specs.SceneWords.{words}
use Rattle.scene_words.proofs.TailWords.{labels_ahead}
use Rattle.scene_words.proofs.one_pass_fields.labels_ahead.Goals as goal

pub returns-clause-labels : goal.returns-clause-labels
returns-clause-labels c =
    (labels_ahead c.args.version (words c.args.line.now) (words c.in_ok-is.line.now) (words c.in_ok-sees.line.now) c.in_ok-is.is' c.in_ok-sees.sees
    c.in_ok-group.group c.in_ok-is.ensures c.in_ok-sees.ensures c.in_ok-group.ensures).labels

pub returns-clause-few : goal.returns-clause-few
returns-clause-few c =
    (labels_ahead c.args.version (words c.args.line.now) (words c.in_ok-is.line.now) (words c.in_ok-sees.line.now) c.in_ok-is.is' c.in_ok-sees.sees
    c.in_ok-group.group c.in_ok-is.ensures c.in_ok-sees.ensures c.in_ok-group.ensures).few
