-- each clause is a lemma
use Rattle.broad_index.specs.NearRises.{near_rises}
use Rattle.broad_index.proofs.Answering.{near_is, found_is, reach_is}
use Rattle.broad_index.proofs.MapMembers.{near_members, found_members, found_rises, reach_members, reach_rises}
use Rattle.broad_index.proofs.OneRising.{one_rising_pairs, one_rising_slots}
use Rattle.broad_index.proofs.laws.member_laws.Goals as goal

pub returns-clause-near : goal.returns-clause-near
returns-clause-near c = near_members

pub returns-clause-found : goal.returns-clause-found
returns-clause-found c = found_members

pub returns-clause-reach : goal.returns-clause-reach
returns-clause-reach c = reach_members

pub returns-clause-near_rises : goal.returns-clause-near_rises
returns-clause-near_rises c = near_rises

pub returns-clause-found_rises : goal.returns-clause-found_rises
returns-clause-found_rises c = found_rises

pub returns-clause-reach_rises : goal.returns-clause-reach_rises
returns-clause-reach_rises c = reach_rises

pub returns-clause-one_rising_pairs : goal.returns-clause-one_rising_pairs
returns-clause-one_rising_pairs c = one_rising_pairs

pub returns-clause-one_rising_slots : goal.returns-clause-one_rising_slots
returns-clause-one_rising_slots c = one_rising_slots

pub returns-clause-is_near : goal.returns-clause-is_near
returns-clause-is_near c = near_is

pub returns-clause-is_found : goal.returns-clause-is_found
returns-clause-is_found c = found_is

pub returns-clause-is_reach : goal.returns-clause-is_reach
returns-clause-is_reach c = reach_is
