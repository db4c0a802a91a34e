-- What each call answers: the smallest number first of what speaks against it.
use Rattle.std.specs.Prelude.{ℕ, Bool, cond, List, length, Ok, Err, Result, nat_le, nat_lt}
use Rattle.drawings.specs.DrawAnswers.{has_room}
use Rattle.legends.specs.declared.legend.Legend.{Legend}
use Rattle.legends.specs.declared.call.Call.{Call}
use Rattle.legends.specs.declared.call.Call.TheVariants.{Put, Turn, Draw}
use Rattle.legends.specs.declared.refusal.Refusal.{Refusal}
use Rattle.legends.specs.declared.refusal.Refusal.TheVariants.{Length, NoPlace, NoRoom, OutOfBounds}
use Rattle.legends.specs.Book.{plain, book_after}
use Rattle.legends.specs.Fits.{fit}
use Rattle.legends.specs.Leaves.{State}

abbrev pub make_answer : ℕ → ℕ → ℕ → ℕ → Result Legend Refusal
make_answer n signs mapped positions = cond (fit n signs mapped positions) (Ok (record { len = n; settings = plain })) (Err Length)

abbrev pub fits : State → Bool
fits st = fit st.legend.len (length st.signs) (length st.mapped) (length st.positions)

abbrev pub put_answer : ℕ → State → Result (Unit {0}) Refusal
put_answer place st = cond (fits st) (cond (nat_lt place st.legend.len) (Ok tt) (Err NoPlace)) (Err Length)

abbrev pub turn_answer : State → Result (Unit {0}) Refusal
turn_answer st = cond (fits st) (Ok tt) (Err Length)

-- A draw goes by the room in the drawing and in the pen list, and by whether the lists hold only what a line may hold.
abbrev pub draw_answer : ℕ → ℕ → Bool → State → Result (Unit {0}) Refusal
draw_answer items pens bounded st =
    cond (fits st)
    (cond (has_room st.legend.len items pens)
    (cond bounded (Ok tt) (Err OutOfBounds))
    (Err NoRoom))
    (Err Length)

-- On lists that calls on a legend of n signs have left, a draw is decided by n and by the room that it is lent.
abbrev pub room_answer : ℕ → ℕ → ℕ → Result (Unit {0}) Refusal
room_answer n items pens = cond (nat_le n 256) (cond (has_room n items pens) (Ok tt) (Err NoRoom)) (Err Length)

-- What a call answers where its legend's lists are as long as the legend: by what it is lent, and by its own arguments.
abbrev pub answer_to : ℕ → Call → Result (Unit {0}) Refusal
answer_to n (Put lent place row) = cond (nat_le n lent) (cond (nat_lt place n) (Ok tt) (Err NoPlace)) (Err Length)
answer_to n (Turn lent settings) = cond (nat_le n lent) (Ok tt) (Err Length)
answer_to n (Draw lent room) = cond (nat_le n lent) (cond (nat_le n room) (Ok tt) (Err NoRoom)) (Err Length)

-- A look after calls answers with the legend as the book has it, or refuses before it makes one.
abbrev pub look_answer : ℕ → List Call → ℕ → ℕ → ℕ → ℕ → ℕ → Result Legend Refusal
look_answer n calls signs mapped positions items pens =
    cond (fit n signs mapped positions)
    (cond (has_room n items pens) (Ok (record { len = n; settings = (book_after n calls).settings })) (Err NoRoom))
    (Err Length)
