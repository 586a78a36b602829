use Rattle.ojp_gtfs_cli.specs.Meanings.{chosen_by}
use Rattle.ojp_gtfs_cli.specs.Words.{texts_of}
use Rattle.ojp_gtfs_cli.proofs.WordFacts.{no_change_said, no_options_said, no_station_change_said, no_window_said}
use Rattle.ojp_gtfs_cli.proofs.words.read_behind.Goals as goal

pub returns-in_default-read_options : goal.returns-in_default-read_options
returns-in_default-read_options c = no_options_said c.args.folder.now c.args.code.now (texts_of c.args.rest.now) c.in_default-read_options.ensures

pub returns-in_default-window_of : goal.returns-in_default-window_of
returns-in_default-window_of c =
    no_window_said c.args.folder.now c.args.code.now (texts_of c.args.rest.now) (chosen_by c.in-Some-read_options.options) c.in-Some-read_options.ensures c.in_default-window_of.ensures

pub returns-in_default-change_of : goal.returns-in_default-change_of
returns-in_default-change_of c =
    no_change_said c.args.folder.now c.args.code.now (texts_of c.args.rest.now) (chosen_by c.in-Some-read_options.options) c.in-Some-read_options.ensures c.in_default-change_of.ensures

pub returns-in_default-change_of-2 : goal.returns-in_default-change_of-2
returns-in_default-change_of-2 c =
    no_station_change_said c.args.folder.now c.args.code.now (texts_of c.args.rest.now) (chosen_by c.in-Some-read_options.options) c.in-Some-read_options.ensures c.in_default-change_of-2.ensures
