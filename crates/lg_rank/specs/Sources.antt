-- Parts that can be read.
use Rattle.lg_rank.specs.Values.{Value, value_of}
use Rattle.lg_rank.specs.declared.part.Part.{Part}
use Rattle.lg_rank.specs.declared.source.Source.{Source}
use Rattle.lg_rank.specs.declared.source.Source.TheVariants.{Made, Waiting}

abbrev pub part_in : Source → Part
part_in (Made p) = p.now
part_in (Waiting r) = r.now

abbrev pub value_in : Source → Value
value_in s = value_of (part_in s)
