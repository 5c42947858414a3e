-- What is read from the front is the listing.
use Rattle.scene_words.specs.SceneWords.{words}
use Rattle.scene_words.proofs.TailWords.{listing_ahead}
use Rattle.scene_words.proofs.one_pass_fields.listing_ahead.Goals as goal

pub returns-clause-listing : goal.returns-clause-listing
returns-clause-listing c =
    (listing_ahead c.args.version (words c.args.line.now) (words c.in_ok-mask.line.now) c.in_ok-mask.mask c.in_ok-entry.entry c.in_ok-mask.ensures
    c.in_ok-entry.ensures).listing

pub returns-clause-few : goal.returns-clause-few
returns-clause-few c =
    (listing_ahead c.args.version (words c.args.line.now) (words c.in_ok-mask.line.now) c.in_ok-mask.mask c.in_ok-entry.entry c.in_ok-mask.ensures
    c.in_ok-entry.ensures).few
