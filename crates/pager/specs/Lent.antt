-- What the writers of lines know of the lines before, and what a run of lines leaves behind.
--
-- In order: the kept edges so far; lines written one behind the other.
use Rattle.std.specs.Prelude.{◌≡◌, ◌⊎◌, Ok, List, ℕ, ◌+◌, ◌≤◌, ◌<◌, length}
use Rattle.rule.specs.declared.Book.{Book}
use Rattle.rule.specs.Sets.{count}
use Rattle.rule.specs.Books.{kept_of}
use Rattle.text.specs.Puts.{Writes}
use Rattle.reports.specs.Steps.{Form, Lines, line_room}
use Rattle.pager.specs.declared.PageEnd.{PageEnd}

-- kept is how many of the first i edges are kept, where there are as many
pub record Tally (B : Book) (i kept : ℕ) : Type 0 where
  pub few : kept ≤ i
  pub counts : i ≤ B.count → kept ≡ count (kept_of B) i

-- the lines from i on, up to the one before j, stand one behind the other in the first places
pub record LinesRun (form : Form) (B : Book) (i : ℕ) (before after : List ℕ) (j end : ℕ) : Type 0 where
  pub bytes : List ℕ
  pub are_lines : Lines form B (Ok tt) (length before) i j bytes
  pub writes : Writes bytes before after end
  pub as_long : length after ≡ length before
  pub within : end ≤ length before

-- and no line more is there, or has room
pub record FullRun (form : Form) (B : Book) (i : ℕ) (before after : List ℕ) (filled : PageEnd) : Type 0 where
  pub run : LinesRun form B i before after filled.line filled.end
  pub whole : (form.number B ≤ filled.line) ⊎ (length before < filled.end + line_room)
