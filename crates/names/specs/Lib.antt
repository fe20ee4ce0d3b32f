-- The worked examples of document 01. A reader starts with Names.
pub mod Names  -- believed. names_to_try: the starred lines of 'Names to try', one table; Holds: what a line states
pub mod NamedGroup  -- believed. Group: a group of the routing table by port names; local_g00
