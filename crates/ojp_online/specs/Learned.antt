-- How a command fails that learned no book.
use Rattle.ojp_gateway.specs.declared.learning.LearnRefused.{LearnRefused}
use Rattle.ojp_gateway.specs.declared.learning.LearnRefused.TheVariants as refusals
use Rattle.ojp_steps.specs.Failures.{failure_of_book}
use Rattle.ojp_steps.specs.declared.failures.Failure.{Failure}
use Rattle.ojp_steps.specs.declared.failures.Failure.TheVariants as failures

-- the first region that failed, or regions that make no book
abbrev pub failure_of_learning : LearnRefused → Failure
failure_of_learning (refusals.Region code) = failures.Region code
failure_of_learning (refusals.Book reason) = failure_of_book reason
failure_of_learning refusals.NoMemory = failures.Memory
