-- Serves proofs alone: what a prepared ray asks.
use Rattle.broad_index.specs.declared.query.Query.{Query}
use Rattle.live_queries.specs.declared.ray_test.RayTest.{RayTest}
use Rattle.live_queries.specs.declared.ray_test.RayTest.TheVariants.{Prepared, Plain}

abbrev pub asked_by : RayTest → Query
asked_by (Prepared line) = line
asked_by (Plain query) = query
