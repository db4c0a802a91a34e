-- The direction of the text of a line, by which the components of a ligature lie.
use Rattle.std.specs.Prelude.{Bool, true, false}
use Rattle.placement.specs.declared.direction.Direction.{Direction}
use Rattle.placement.specs.declared.direction.Direction.TheVariants.{LeftToRight, RightToLeft, TopToBottom, BottomToTop}
use Rattle.placement.specs.declared.settings.Settings.{Settings}
use Rattle.placement.specs.Scripts.{from_script, is_leftward}

-- As the line runs if it is horizontal, else as its script does, else from left to right.
abbrev pub text_ltr : Direction → Bool → Bool
text_ltr LeftToRight script = true
text_ltr RightToLeft script = false
text_ltr TopToBottom script = script
text_ltr BottomToTop script = script

abbrev pub is_text_ltr : Settings → Bool
is_text_ltr s = text_ltr s.direction (is_leftward (from_script s.script))
