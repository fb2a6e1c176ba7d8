mod Sorting
mod Judged
mod Within
