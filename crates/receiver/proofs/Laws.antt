-- What holds of runs of bits and of feeds.
use Rattle.receiver.specs.Feed.{FeedLaws}
use Rattle.receiver.proofs.Fewness.{feed_room, few_offers}
use Rattle.receiver.proofs.Runs.{after-append, bits_of-append, works_then}

pub feed_laws : FeedLaws
feed_laws = record {
  tracked = after-append;
  joined = λ r r' r'' k k' k'' q q' q'' bs cs n m a b. works_then a b;
  bits = bits_of-append;
  few = few_offers;
  room = feed_room;
}
