-- The marked figures, in document 01's order: Similarity, Cut, Merge.
use Rattle.std.specs.Prelude.{List, [], ◌∷◌}
use Rattle.figures.specs.Figure.{Figure, similar, cuts, merges, not_allowed, cut_into}

unfoldable pub marked : List Figure
marked =
    -- "" and "a": 0
    similar [] (97 ∷ []) 0
    -- "a" and "a": 10
    ∷ similar (97 ∷ []) (97 ∷ []) 10
    -- "a" and "j": 1
    ∷ similar (97 ∷ []) (106 ∷ []) 1
    -- "a" and "k": 0
    ∷ similar (97 ∷ []) (107 ∷ []) 0
    -- "src/a" and "src/b": 49
    ∷ similar (115 ∷ 114 ∷ 99 ∷ 47 ∷ 97 ∷ []) (115 ∷ 114 ∷ 99 ∷ 47 ∷ 98 ∷ []) 49
    -- "ui/a" and "ui/b": 39
    ∷ similar (117 ∷ 105 ∷ 47 ∷ 97 ∷ []) (117 ∷ 105 ∷ 47 ∷ 98 ∷ []) 39
    -- "ui/b" and "vendor/b": 23
    ∷ similar (117 ∷ 105 ∷ 47 ∷ 98 ∷ []) (118 ∷ 101 ∷ 110 ∷ 100 ∷ 111 ∷ 114 ∷ 47 ∷ 98 ∷ []) 23
    -- ui/a, ui/b, vendor/b; sizes [10, 10, 10]; minimum 0, maximum 20: cut 2, 20 and 10
    ∷ cuts ((117 ∷ 105 ∷ 47 ∷ 97 ∷ []) ∷ (117 ∷ 105 ∷ 47 ∷ 98 ∷ []) ∷ (118 ∷ 101 ∷ 110 ∷ 100 ∷ 111 ∷ 114 ∷ 47 ∷ 98 ∷ []) ∷ [])
    (10 ∷ 10 ∷ 10 ∷ []) 0 20 (cut_into 2 20 10)
    -- m1, m2, m3; sizes [10, 20, 30]; minimum 0, maximum 40: cut 2, 30 and 30
    ∷ cuts ((109 ∷ 49 ∷ []) ∷ (109 ∷ 50 ∷ []) ∷ (109 ∷ 51 ∷ []) ∷ []) (10 ∷ 20 ∷ 30 ∷ []) 0 40 (cut_into 2 30 30)
    -- m1, m2, m3; sizes [10, 20, 30]; minimum 30, maximum 40: cut 2, 30 and 30
    ∷ cuts ((109 ∷ 49 ∷ []) ∷ (109 ∷ 50 ∷ []) ∷ (109 ∷ 51 ∷ []) ∷ []) (10 ∷ 20 ∷ 30 ∷ []) 30 40 (cut_into 2 30 30)
    -- m1, m2, m3; sizes [10, 20, 30]; minimum 31, maximum 40: none, since no cut is allowed
    ∷ cuts ((109 ∷ 49 ∷ []) ∷ (109 ∷ 50 ∷ []) ∷ (109 ∷ 51 ∷ []) ∷ []) (10 ∷ 20 ∷ 30 ∷ []) 31 40 not_allowed
    -- ka, kaa, kk; sizes [5, 1, 1]; minimum 0, maximum 10: cut 1, 5 and 2
    ∷ cuts ((107 ∷ 97 ∷ []) ∷ (107 ∷ 97 ∷ 97 ∷ []) ∷ (107 ∷ 107 ∷ []) ∷ []) (5 ∷ 1 ∷ 1 ∷ []) 0 10 (cut_into 1 5 2)
    -- ja, jaa, kk; sizes [5, 1, 1]; minimum 0, maximum 10: cut 2, 6 and 1
    ∷ cuts ((106 ∷ 97 ∷ []) ∷ (106 ∷ 97 ∷ 97 ∷ []) ∷ (107 ∷ 107 ∷ []) ∷ []) (5 ∷ 1 ∷ 1 ∷ []) 0 10 (cut_into 2 6 1)
    -- threshold 10, sizes [5, 100, 50], first words [1, 2, 3]: numbers [2, 1, 2], sizes [0, 100, 55], first words [0, 2, 3]
    ∷ merges 10 (5 ∷ 100 ∷ 50 ∷ []) (1 ∷ 0 ∷ 0 ∷ 0 ∷ 2 ∷ 0 ∷ 0 ∷ 0 ∷ 3 ∷ 0 ∷ 0 ∷ 0 ∷ [])
    (2 ∷ 1 ∷ 2 ∷ []) (0 ∷ 100 ∷ 55 ∷ []) (0 ∷ 0 ∷ 0 ∷ 0 ∷ 2 ∷ 0 ∷ 0 ∷ 0 ∷ 3 ∷ 0 ∷ 0 ∷ 0 ∷ [])
    -- threshold 10, sizes [10, 10], first words [1, 2]: numbers [0, 1], sizes [10, 10], first words [1, 2]
    ∷ merges 10 (10 ∷ 10 ∷ []) (1 ∷ 0 ∷ 0 ∷ 0 ∷ 2 ∷ 0 ∷ 0 ∷ 0 ∷ []) (0 ∷ 1 ∷ []) (10 ∷ 10 ∷ []) (1 ∷ 0 ∷ 0 ∷ 0 ∷ 2 ∷ 0 ∷ 0 ∷ 0 ∷ [])
    -- threshold 10, sizes [0, 5], first words [1, 2]: numbers [0, 0], sizes [5, 0], first words [3, 0]
    ∷ merges 10 (0 ∷ 5 ∷ []) (1 ∷ 0 ∷ 0 ∷ 0 ∷ 2 ∷ 0 ∷ 0 ∷ 0 ∷ []) (0 ∷ 0 ∷ []) (5 ∷ 0 ∷ []) (3 ∷ 0 ∷ 0 ∷ 0 ∷ 0 ∷ 0 ∷ 0 ∷ 0 ∷ [])
    ∷ []
