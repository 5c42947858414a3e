-- Each law is a lemma on what is printed.
use Rattle.fixed_box.proofs.RoundTrip.{round_trip, shown_bytes, shown_short}
use Rattle.fixed_box.proofs.printing.printed_reads_back.Goals as goal

pub returns-clause-reads_back : goal.returns-clause-reads_back
returns-clause-reads_back c = round_trip

pub returns-clause-bytes : goal.returns-clause-bytes
returns-clause-bytes c = shown_bytes

pub returns-clause-short : goal.returns-clause-short
returns-clause-short c = shown_short
