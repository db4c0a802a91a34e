-- The combining classes by which marks are placed. A class of 200 or above names a place, as above or below right. Below
-- that stand the classes of single scripts, numbered in the order in which marks are sorted: sheva, class 10 of Unicode,
-- is 22 here. Each of those gets the class of the place where its marks belong.
use Rattle.std.specs.Prelude.{ℕ, ◌/◌, cond, List, [], ◌∷◌, ◌++◌, ◌==◌, nat_le}

-- What the first entry of a number gives, or another class where no entry has it.
abbrev pub lookup : ℕ → ℕ → List (ℕ × ℕ) → ℕ
lookup wanted otherwise [] = otherwise
lookup wanted otherwise (e ∷ es) = cond (e.0 == wanted) e.1 (lookup wanted otherwise es)

-- The classes of single scripts. Dagesh, class 12, is in no table: it stays inside its letter.
abbrev pub hebrew : List (ℕ × ℕ)
hebrew =
    (22, 220) ∷ (15, 220) ∷ (16, 220) ∷ (17, 220) ∷ (23, 220) ∷ (18, 220) ∷ (19, 220) ∷ (20, 220) ∷ (21, 220) ∷ (24, 220) ∷ (25, 220)
    ∷ (13, 214) ∷ (10, 232) ∷ (11, 228) ∷ (14, 228) ∷ (26, 230) ∷ []

abbrev pub arabic_and_syriac : List (ℕ × ℕ)
arabic_and_syriac =
    (28, 230) ∷ (29, 230) ∷ (31, 230) ∷ (32, 230) ∷ (27, 230) ∷ (34, 230) ∷ (35, 230) ∷ (36, 230)
    ∷ (30, 220) ∷ (33, 220) ∷ []

abbrev pub thai : List (ℕ × ℕ)
thai = (3, 222) ∷ (107, 232) ∷ []

abbrev pub lao : List (ℕ × ℕ)
lao = (118, 220) ∷ (122, 230) ∷ []

abbrev pub tibetan : List (ℕ × ℕ)
tibetan = (129, 220) ∷ (132, 230) ∷ (131, 220) ∷ []

abbrev pub script_classes : List (ℕ × ℕ)
script_classes = hebrew ++ (arabic_and_syriac ++ (thai ++ (lao ++ tibetan)))

abbrev pub by_script : ℕ → ℕ
by_script c = lookup c c script_classes

-- Many Thai and Lao marks have class 0, so their codes say where they belong.
abbrev pub thai_marks : List (ℕ × ℕ)
thai_marks =
    (0x0E31, 232) ∷ (0x0E34, 232) ∷ (0x0E35, 232) ∷ (0x0E36, 232) ∷ (0x0E37, 232) ∷ (0x0E47, 232) ∷ (0x0E4C, 232)
    ∷ (0x0E4D, 232) ∷ (0x0E4E, 232) ∷ []

abbrev pub lao_marks : List (ℕ × ℕ)
lao_marks =
    (0x0EB1, 230) ∷ (0x0EB4, 230) ∷ (0x0EB5, 230) ∷ (0x0EB6, 230) ∷ (0x0EB7, 230) ∷ (0x0EBB, 230) ∷ (0x0ECC, 230)
    ∷ (0x0ECD, 230) ∷ (0x0EBC, 220) ∷ []

-- Of the codes 0x0E00 to 0x0EFF, the listed marks of class 0 are placed by their code; the Thai virama, with any other
-- class, goes below right.
abbrev pub by_code : ℕ → ℕ → ℕ
by_code code c =
    cond (code / 256 == 0x0E)
    (cond (c == 0) (lookup code 0 (thai_marks ++ lao_marks)) (cond (code == 0x0E3A) 222 c))
    c

-- The class by which a mark of a code and a class is placed.
abbrev pub recategorized : ℕ → ℕ → ℕ
recategorized code c = cond (nat_le 200 c) c (by_script (by_code code c))
