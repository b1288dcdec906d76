-- 01, "Link": what the chain of a file is, by its segments. Assumes nothing.
use Rattle.std.specs.Prelude.{ℕ, ◌-◌, List, length}
use Rattle.table.specs.declared.ChainParts.{ChainParts}
use Rattle.layout.specs.Segments.{Segment, segment_at, link_for}

-- as many chunks as segments; the first with its mark, and the last
abbrev pub chain_for : ℕ → ℕ → List Segment → ChainParts
chain_for size slot g =
    record {
      count = length g;
      first = (segment_at g 0).chunk;
      partial = (link_for size slot g 0).partial;
      records = (link_for size slot g 0).records;
      last = (segment_at g (length g - 1)).chunk;
    }
