use Rattle.ojp_links_mem.specs.Files.{links_seen}
use Rattle.ojp_plan.proofs.ReadyFacts.{learned, none_failed_to_learn, not_learned}
use Rattle.ojp_plan.proofs.learning.learn_book.Goals as goal

pub unreachable-requires : goal.unreachable-requires
unreachable-requires g c =
    none_failed_to_learn c.requires.1 (links_seen c.args.files.now) (links_seen c.learn_paced-learned.new.links) c.is_sound.ensures c.is_sound-2.ensures c.requires.0 c.requires.2
    c.in-Err-Region.ensures.keeps c.in-Err-Region.ensures.none_live c.in-Err-Region.ensures.none_rejected c.in-Err-Region.field-0-0 (rw c.in-Err-Region.field-0-is at c.in-Err-Region.ensures.learns)

pub returns-in-Ok : goal.returns-in-Ok
returns-in-Ok g c given order o =
    learned order (links_seen c.args.files.now) (links_seen c.learn_paced-learned.new.links) c.is_sound.ensures c.is_sound-2.ensures given o
    c.in-Ok.ensures.keeps c.in-Ok.ensures.none_live c.in-Ok.ensures.none_rejected c.in-Ok.book c.in-Ok.ensures.learns

pub returns-in-Err-Book : goal.returns-in-Err-Book
returns-in-Err-Book g c given order o =
    not_learned order (links_seen c.args.files.now) (links_seen c.learn_paced-learned.new.links) c.is_sound.ensures c.is_sound-2.ensures given o
    c.in-Err-Book.ensures.keeps c.in-Err-Book.ensures.none_live c.in-Err-Book.ensures.none_rejected c.in-Err-Book.reason (rw c.in-Err-Book.field-0-is at c.in-Err-Book.ensures.learns)
