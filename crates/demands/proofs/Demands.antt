-- THE THREE DEMANDS. What each says stands in `specs/Demands.antt`.
-- Assumes nothing.
use Rattle.image.proofs.Accepted.{Accepted_one}
use Rattle.pair.proofs.Chains.{chains_same, chain_least}
use Rattle.demands.specs.Demands.{EveryInput, PlainLists, PlainSets}
use Rattle.demands.proofs.Settling.{
  Settles-Clock,
  Settles-Check,
  Settles-Read,
  Settles-Rank,
  Settles_first,
  Settles-Start,
  Settles-next,
  Settles-skip,
  Settles-Write,
  Settles-Pair,
}
use Rattle.demands.proofs.Accepting.{
  clock_Accepts,
  check_Accepts,
  read-Accepts,
  rank-Accepts,
  first-Accepts,
  start_Accepts,
  next_Accepts,
  skip_Accepts,
  write-Accepts,
  pair-Accepts,
}
use Rattle.demands.proofs.Keeping.{read_keeps, write_keeps, pair_keeps}
use Rattle.demands.proofs.Answering.{Accepted_exactly, answers_of, Wrote-Shortest}
use Rattle.demands.proofs.Linking.{Ends_write, Made_links, Made_writes}

-- every input has one outcome, only document 01's table refuses, and a refusal says what every buffer holds
pub every_input : EveryInput
every_input =
    record {
      settled = record {
        clock = Settles-Clock;
        check = Settles-Check;
        read = Settles-Read;
        rank = Settles-Rank;
        first = Settles_first;
        start = Settles-Start;
        next = Settles-next;
        skip = Settles-skip;
        write = Settles-Write;
        pair = Settles-Pair;
      };
      accepted = record {
        clock = clock_Accepts;
        check = check_Accepts;
        read = read-Accepts;
        rank = rank-Accepts;
        first = first-Accepts;
        start = start_Accepts;
        next = next_Accepts;
        skip = skip_Accepts;
        write = write-Accepts;
        pair = pair-Accepts;
      };
      kept = record { read = read_keeps; write = write_keeps; pair = pair_keeps };
    }

-- an image is its list, and what is written is the list's shortest image
pub plain_lists : PlainLists
plain_lists = record { accepted = Accepted_exactly; one_list = Accepted_one; answers = answers_of; written = Wrote-Shortest }

-- an operation gives what writing the set gives
pub plain_sets : PlainSets
plain_sets = record { writes = Made_writes; links = Made_links; chain_writes = Ends_write; same = chains_same; least = chain_least }
