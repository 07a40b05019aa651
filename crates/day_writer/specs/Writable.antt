-- Which days are read back from their texts.
use Rattle.day_text.specs.Bounds.{IsBounded}
use Rattle.day_text.specs.Days.{DayParts}
use Rattle.day_text.specs.Laws.{IsDayFile}
use Rattle.day_text.specs.Named.{IsNamed}

-- a day keeps what every day file keeps, is within the bounds of day files, and has the names that records can have
pub record IsWritable (file : DayParts) : Type 0 where
  pub kept : IsDayFile file
  pub bounds : IsBounded file
  pub names : IsNamed file
