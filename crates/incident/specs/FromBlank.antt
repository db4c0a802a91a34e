-- Two signs drawn from blank.
use Rattle.std.specs.Prelude.{List}
use Rattle.signs.specs.declared.SignRow.{SignRow}
use Rattle.placement.specs.declared.Settings.{Settings}
use Rattle.legends.specs.Book.{Book}

abbrev pub book_of : Settings → List SignRow → Book
book_of s rows = record { signs = rows; settings = s }
