-- What a refusal is and what it leaves behind.
pub mod Grounds  -- believed. number_of, place_of: the paper's columns; unless: one check in a chain; answer_number, answer_value, number_value: an answer's number and what comes with it
pub mod Memory  -- believed. output, work_room: lent memory after an answer
